-- The test of held steps tells whether they are the same.
use Rattle.std.proofs.Common.{◌≡◌, true, ap, subst, arith}
use Rattle.std.proofs.lemmas.Bool.Decides.{nat_tests}
use Rattle.wf_model.specs.declared.body.Step.{Step as StepHeld}
use Rattle.wf_model.specs.contracts.body.StepPartialEq.TheImpl.{eq-value}
use Rattle.wf_model.specs.Reach.{Step}
use Rattle.wf_model.specs.Steps.{step_of}

held : Step → StepHeld
held s = record { production = record { 0 = s.production }; position = record { 0 = s.position } }

same_held : (a b : StepHeld) → (eq-value).it a b ≡ true → a ≡ b
same_held a b e = grind (arith, nat_tests)

self_held : (a : StepHeld) → (eq-value).it a a ≡ true
self_held a = grind (arith, nat_tests)

pub same_gives : (a b : StepHeld) → (eq-value).it a b ≡ true → step_of a ≡ step_of b
same_gives a b e = ap step_of (same_held a b e)

pub same_from : (a b : StepHeld) → step_of a ≡ step_of b → (eq-value).it a b ≡ true
unfolding held
same_from a b e = let q : a ≡ b = ap held e in subst (λ z. (eq-value).it a z ≡ true) q (self_held a)
