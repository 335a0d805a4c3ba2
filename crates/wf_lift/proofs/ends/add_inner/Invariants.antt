use Rattle.std.proofs.Common.{◌≡◌, ◌++◌, map}
use Rattle.wf_model.specs.Lists.{numbers_from}
use Rattle.wf_model.specs.Meaning.{inner_of}
use Rattle.words_model.specs.Lifting.{lift_inner}
use Rattle.wf_lift.proofs.ends.add_inner.Given as goal

-- the states so far
abbrev pub invariant-loop-s : goal.invariant-loop-s
invariant-loop-s l = map inner_of l.list.items ≡ map inner_of l.initial.list.items ++ map (λ s. lift_inner l.states s (inner_of l.one)) (numbers_from 0 l.s)
