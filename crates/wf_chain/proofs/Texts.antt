-- Texts that are put one behind the other.
use Rattle.std.proofs.Common.{◌≡◌, ℕ, List, [], ◌∷◌, ◌++◌, flat_map, refl, ap, ◌∙◌, append_assoc}
use Rattle.chain_model.specs.ChainText.{step_lines}
use Rattle.wf_chain.specs.declared.chain.ChainStep.{ChainStep as StepHeld}
use Rattle.wf_chain.specs.ViewedRuns.{ViewedRunValue}
use Rattle.wf_chain.specs.Steps.{step_in}
use Rattle.wf_chain.specs.Chains.{steps_in}

pub two_behind : (t a b r s : List ℕ) → r ≡ t ++ a → s ≡ r ++ b → s ≡ t ++ (a ++ b)
two_behind t a b r s p q = q ∙ (ap (λ z. z ++ b) p ∙ append_assoc t a b)

pub three_behind : (t a b c r s x : List ℕ) → r ≡ t ++ a → s ≡ r ++ b → x ≡ s ++ c → x ≡ t ++ (a ++ (b ++ c))
three_behind t a b c r s x p q h = two_behind t a (b ++ c) r x p (two_behind r b c s x q h)

pub four_behind : (t a b c d r s x y : List ℕ) → r ≡ t ++ a → s ≡ r ++ b → x ≡ s ++ c → y ≡ x ++ d → y ≡ t ++ (a ++ (b ++ (c ++ d)))
four_behind t a b c d r s x y p q h k = two_behind t a (b ++ (c ++ d)) r y p (three_behind r b c d s x y q h k)

-- the lines of held steps, step by step
pub lines_of_steps : (v : ViewedRunValue) (ss : List StepHeld) → flat_map (λ s. step_lines (step_in v s)) ss ≡ flat_map step_lines (steps_in v ss)
lines_of_steps v [] = refl
lines_of_steps v (s ∷ ss) = ap (λ l. step_lines (step_in v s) ++ l) (lines_of_steps v ss)
