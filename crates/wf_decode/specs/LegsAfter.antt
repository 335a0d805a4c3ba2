-- What is left of legs after continuing steps and one step more.
use Rattle.std.specs.Prelude.{◌≡◌, ℕ, ◌<◌, false, List, [], ◌∷◌, ◌++◌, length}
use Rattle.wf_model.specs.Reach.{Step, module_along}
use Rattle.decode_model.specs.Rounds.{AreContinuing}
use Rattle.decode_model.specs.Costs.{IsLeft}
use Rattle.wf_vlabel.specs.Seen.{ViewLabelSeen}
use Rattle.wf_decode.specs.declared.leg.Leg.{Leg as LegHeld}
use Rattle.wf_decode.specs.declared.leg.Leg.TheVariants.{Into as IntoHeld, Chain as ChainHeld}
use Rattle.wf_decode.specs.HeldLegs.{AreHeld, held_steps, legs_of}

-- of the legs a from the module m, the legs b are left after n continuing steps and the step s
pub record AreLeftAfter (l : ViewLabelSeen) (m : ℕ) (a : List LegHeld) (n : ℕ) (s : Step) (b : List LegHeld) : Type 0 where
  pub chain : List Step
  pub continuing : AreContinuing l.grammar m chain
  pub many : length chain ≡ n
  pub steps : held_steps l a ≡ chain ++ s ∷ held_steps l b
  pub held : AreHeld l (module_along l.grammar m (chain ++ s ∷ [])) false b
  pub left : IsLeft (legs_of l b) (legs_of l a)

-- of two lists of legs from the module m these are left, after as many continuing steps of each and a step of each
pub record AreLeftOfBoth (l : ViewLabelSeen) (m : ℕ) (a : List LegHeld) (s : Step) (b : List LegHeld) (c : List LegHeld) (t : Step) (d : List LegHeld) : Type 0 where
  pub count : ℕ
  pub first : AreLeftAfter l m a count s b
  pub second : AreLeftAfter l m c count t d

-- the first leg is a chain of more than n continuing steps
abbrev pub HasChain : ℕ → List LegHeld → Type 0
HasChain n [] = ⊥
HasChain n (IntoHeld s ∷ legs) = ⊥
HasChain n (ChainHeld k j c ∷ legs) = n < c

-- so whatever the module is from which they can be gone
abbrev pub LeavesAfter : ViewLabelSeen → List LegHeld → ℕ → Step → List LegHeld → Type 0
LeavesAfter l a n s b = (m : ℕ) → AreHeld l m false a → AreLeftAfter l m a n s b

abbrev pub LeavesOfBoth : ViewLabelSeen → List LegHeld → Step → List LegHeld → List LegHeld → Step → List LegHeld → Type 0
LeavesOfBoth l a s b c t d = (m : ℕ) → AreHeld l m false a → AreHeld l m false c → AreLeftOfBoth l m a s b c t d
