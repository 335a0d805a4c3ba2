-- Where two addresses part.
use Rattle.std.specs.Prelude.{◌≡◌, ◌≢◌, ℕ, ◌+◌, ◌≤◌, false, List, [], ◌∷◌, ◌++◌, length, drop}
use Rattle.wf_model.specs.Reach.{Step, module_along}
use Rattle.wf_recur.specs.Cycles.{step_of}
use Rattle.decode_model.specs.Costs.{IsLeft}
use Rattle.wf_vlabel.specs.Seen.{ViewLabelSeen}
use Rattle.wf_decode.specs.declared.leg.Leg.{Leg as LegHeld}
use Rattle.wf_decode.specs.declared.parting.Parted.{Parted}
use Rattle.wf_decode.specs.declared.parting.Parted.TheVariants.{Clash, Across, Down, Up}
use Rattle.wf_decode.specs.HeldLegs.{AreHeld, held_steps, legs_of}

-- the addresses have a common beginning, and then steps by different productions
pub record AreClashingSteps (a b : List Step) : Type 0 where
  pub common : List Step
  pub first : Step
  pub second : Step
  pub first_rest : List Step
  pub second_rest : List Step
  pub first_is : a ≡ common ++ first ∷ first_rest
  pub second_is : b ≡ common ++ second ∷ second_rest
  pub differ : first.production ≢ second.production

-- after these steps, legs from the n-th on are left of an address from the start module, and those behind the n-th are as they were
pub record AreLeftFrom (l : ViewLabelSeen) (old : List LegHeld) (gone : List Step) (n : ℕ) (legs : List LegHeld) : Type 0 where
  pub within : n ≤ length legs
  pub held : AreHeld l (module_along l.grammar l.grammar.start gone) false (drop n legs)
  pub steps : held_steps l old ≡ gone ++ held_steps l (drop n legs)
  pub left : IsLeft (legs_of l (drop n legs)) (legs_of l old)
  pub kept : drop (n + 1) legs ≡ drop (n + 1) old

-- the addresses have a common beginning, and then steps to different positions of one body
pub record AreAcross (l : ViewLabelSeen) (x y : List LegHeld) (s t : Step) (i j : ℕ) (x' y' : List LegHeld) : Type 0 where
  pub common : List Step
  pub body : s.production ≡ t.production
  pub apart : s.position ≢ t.position
  pub first : AreLeftFrom l x (common ++ s ∷ []) i x'
  pub second : AreLeftFrom l y (common ++ t ∷ []) j y'

-- How two addresses part, where legs of them were x and y and are x' and y' now: a chain that is longer than the other's may be shortened
abbrev pub IsParted : ViewLabelSeen → List LegHeld → List LegHeld → Parted → List LegHeld → List LegHeld → Type 0
IsParted l x y Clash x' y' = AreClashingSteps (held_steps l x) (held_steps l y)
IsParted l x y (Across s i t j) x' y' = AreAcross l x y (step_of s) (step_of t) i j x' y'
IsParted l x y (Down j) x' y' = AreLeftFrom l y (held_steps l x) j y'
IsParted l x y (Up i) x' y' = AreLeftFrom l x (held_steps l y) i x'
