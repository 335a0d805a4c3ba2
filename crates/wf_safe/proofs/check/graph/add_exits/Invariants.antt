use Rattle.std.proofs.Common.{◌≡◌, length, map, drop}
use Rattle.wf_model.specs.Links.{exit_links}
use Rattle.wf_model.specs.Meaning.{inner_of}
use Rattle.wf_safe.proofs.LinkGraphs.{Completes}
use Rattle.wf_safe.proofs.check.graph.add_exits.Given as goal

-- the exits that are left
abbrev pub invariant-loop-k : goal.invariant-loop-k
invariant-loop-k l = record {
  count : length l.graph.items ≡ length l.initial.graph.items;
  left : Completes (exit_links l.k (map inner_of (drop l.k l.exits))) (exit_links 0 (map inner_of l.exits)) l.initial.graph.items l.graph.items;
}
