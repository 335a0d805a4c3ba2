use Rattle.std.proofs.Common.{◌≡◌, map, take}
use Rattle.wf_spec.specs.Pairs.{pair_in}
use Rattle.wf_spec.specs.GivenRows.{pair_of}
use Rattle.wf_form.proofs.assemble.pairs.pairs_from.Given as goal

abbrev pub invariant-loop-part : goal.invariant-loop-part
invariant-loop-part l = map pair_of l.pairs.items ≡ map (pair_in l.m) (take l.part-index l.parts)
