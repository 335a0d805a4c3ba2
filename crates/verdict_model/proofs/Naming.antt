-- What a label names is what stands on the way along the address that it tells.
use Rattle.std.proofs.Common.{◌≡◌, ◌⊎◌, ℕ, List, ◌∷◌, ◌++◌, ap, subst, inl, inr}
use Rattle.wf_model.specs.Grammar.{Grammar}
use Rattle.wf_model.specs.WellFormed.{IsWellFormed}
use Rattle.wf_model.specs.Reach.{Step}
use Rattle.label_model.specs.Labels.{Label, Input, Output}
use Rattle.verdict_model.specs.Telling.{Tells, Names}
use Rattle.verdict_model.proofs.LabelsTold.{telling_law, input_untold, output_untold}

-- the way along the address a, which ends by the production p, passes c by the production r
abbrev pub Passes : List Step → ℕ → List Step → ℕ → Type 0
Passes a p c r = ((a ≡ c) × (p ≡ r)) ⊎ ((s : Step) × (rest : List Step) × (a ≡ c ++ s ∷ rest) × (s.production ≡ r))

-- it passes what the rest of the way passes, one step further
pub passes_more : (s : Step) (a : List Step) (p : ℕ) (c : List Step) (r : ℕ) → Passes a p c r → Passes (s ∷ a) p (s ∷ c) r
passes_more s a p c r (inl q) = inl (ap (λ z. s ∷ z) q.0, q.1)
passes_more s a p c r (inr q) = inr (q.0, q.1, ap (λ z. s ∷ z) {y = c ++ q.0 ∷ q.1} q.2, q.3)

module _ (g : Grammar) (wf : IsWellFormed g) (l : Label) (a : List Step) (p e : ℕ) (tells : Tells g l a p e) where
  -- the label names what is passed
  pub names_passed : (c : List Step) (r : ℕ) → Passes a p c r → Names g l c r
  names_passed c r q = (a, p, e, tells, q)

  -- and nothing else
  pub passed_named : (c : List Step) (r : ℕ) → Names g l c r → Passes a p c r
  passed_named c r n =
      let one = (telling_law g wf).one l n.0 a n.1 p n.2 e n.3 tells in
      subst (λ z. Passes a z c r) one.1 (subst (λ z. Passes z n.1 c r) one.0 n.4)

-- the label of a port of the root names nothing
pub input_unnamed : (g : Grammar) (k : ℕ) (c : List Step) (r : ℕ) → Names g (Input k) c r → ⊥
input_unnamed g k c r n = input_untold g k n.0 n.1 n.2 n.3

pub output_unnamed : (g : Grammar) (k : ℕ) (c : List Step) (r : ℕ) → Names g (Output k) c r → ⊥
output_unnamed g k c r n = output_untold g k n.0 n.1 n.2 n.3
