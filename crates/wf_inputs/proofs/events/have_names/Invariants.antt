use Rattle.std.proofs.Common.{◌≡◌, length, take, bytes_eq}
use Rattle.std.specs.Cmp.Lexicographic.{pointwise}
use Rattle.wf_flat.specs.Table.{names_in}
use Rattle.wf_inputs.proofs.events.have_names.Given as goal

abbrev pub invariant-loop-wanted : goal.invariant-loop-wanted
invariant-loop-wanted l = pointwise bytes_eq (take (length l.names) (names_in l.instances)) l.names ≡ pointwise bytes_eq (take (length l.wanted) (names_in l.left)) l.wanted

abbrev pub decreases-loop-wanted : goal.decreases-loop-wanted
decreases-loop-wanted l = length l.wanted
