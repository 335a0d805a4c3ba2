use Rattle.std.proofs.Common.{◌≡◌, List, ◌++◌, take, length}
use Rattle.wf_flat.specs.declared.graph.Link.{Link}
use Rattle.wf_flat.specs.declared.module_rows.Row.{Row}
use Rattle.wf_flat.specs.Leading.{IsIndex, LeaveOnce}
use Rattle.wf_flat.proofs.placing.place_links.Given as goal

abbrev pub invariant-loop-link : goal.invariant-loop-link
invariant-loop-link l = record {
  count : length l.words.items ≡ length l.initial.words.items;
  added : (ls : List Link) (rows : List Row) → LeaveOnce l.links (ls ++ l.links) → IsIndex ls l.begins l.initial.words.items rows → IsIndex (ls ++ take l.link-index l.links) l.begins l.words.items rows;
}
