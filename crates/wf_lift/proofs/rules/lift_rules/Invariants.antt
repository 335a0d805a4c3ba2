use Rattle.std.proofs.Common.{◌≡◌, map, take}
use Rattle.words_model.specs.Lifting.{lift_production}
use Rattle.wf_lift.proofs.rules.lift_rules.Given as goal

-- the productions so far
abbrev pub invariant-loop-one : goal.invariant-loop-one
invariant-loop-one l = l.list.items ≡ map (λ p. lift_production l.states p.core) (take l.one-index l.productions)
