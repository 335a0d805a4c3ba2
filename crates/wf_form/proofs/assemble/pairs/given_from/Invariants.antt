use Rattle.std.proofs.Common.{◌≡◌, map, take}
use Rattle.wf_form.specs.Forming.{given_in}
use Rattle.wf_form.proofs.assemble.pairs.given_from.Given as goal

abbrev pub invariant-loop-part : goal.invariant-loop-part
invariant-loop-part l = l.list.items ≡ map (given_in l.modules) (take l.part-index l.parts)
