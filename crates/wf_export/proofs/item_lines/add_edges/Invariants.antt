use Rattle.std.proofs.Common.{◌≡◌, ◌++◌, map, take}
use Rattle.std.specs.Prelude.{flat_map}
use Rattle.wf_model.specs.Meaning.{edge_of}
use Rattle.wf_export.specs.Shown.{held_edge_line}
use Rattle.wf_export.proofs.item_lines.add_edges.Given as goal

abbrev pub invariant-loop-e : goal.invariant-loop-e
invariant-loop-e l = l.line.items ≡ l.initial.line.items ++ flat_map (held_edge_line l.g.core l.children) (map edge_of (take l.e-index l.edges))
