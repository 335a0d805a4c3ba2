-- The legs of an address as they are held: single steps, and numbers of continuing steps by cycle and place.
use Rattle.std.specs.Prelude.{◌≡◌, ◌≢◌, ℕ, ◌^◌, ◌<◌, Bool, true, false, not, cond, List, [], ◌∷◌, ◌++◌, map, length, take, drop, get_or, Option, Some, None}
use Rattle.wf_model.specs.Lists.{some}
use Rattle.wf_model.specs.Reach.{Step, target_of, module_along}
use Rattle.wf_model.specs.Linear.{IsStepOf}
use Rattle.label_model.specs.Continuing.{continuing}
use Rattle.wf_recur.specs.Cycles.{CyclesSeen, OnSeen, round_at, step_of}
use Rattle.decode_model.specs.Legs.{Leg, One, Chain, Part, leg_steps, way_steps}
use Rattle.wf_vlabel.specs.Seen.{ViewLabelSeen, is_expanded}
use Rattle.wf_decode.specs.declared.leg.Leg.{Leg as LegHeld}
use Rattle.wf_decode.specs.declared.leg.Leg.TheVariants.{Into as IntoHeld, Chain as ChainHeld}

-- the continuing step of a module, as the table of cycles has it
abbrev pub step_by : Option OnSeen → Step
step_by None = record { production = 0; position = 0 }
step_by (Some o) = o.step

abbrev pub step_on : CyclesSeen → ℕ → Step
step_on c m = step_by (get_or c.on m None)

-- the module at a place of a cycle
abbrev pub module_on : CyclesSeen → ℕ → ℕ → ℕ
module_on c k j = get_or (round_at c k) j 0

-- the continuing steps once round a cycle from a place on
abbrev pub round_from : CyclesSeen → ℕ → ℕ → List Step
round_from c k j = map (step_on c) (drop j (round_at c k) ++ take j (round_at c k))

-- so many continuing steps from a place of a cycle
abbrev pub chain_from : CyclesSeen → ℕ → ℕ → ℕ → Leg
chain_from c k j n = Chain (module_on c k j) (round_from c k j) n

-- the view expands the whole cycle
abbrev pub is_whole : ViewLabelSeen → ℕ → Bool
is_whole l k = not (some (λ m. not (is_expanded l m)) (round_at l.cycles k))

-- the leg that is held: a step, or continuing steps, which are gone one by one where the view does not expand the whole cycle
abbrev pub leg_of : ViewLabelSeen → LegHeld → Leg
leg_of l (IntoHeld s) = One (step_of s)
leg_of l (ChainHeld k j n) =
    cond (is_whole l k.0) (chain_from l.cycles k.0 j n) (Part (module_on l.cycles k.0 j) (leg_steps (chain_from l.cycles k.0 j n)))

-- the legs that are held
abbrev pub legs_of : ViewLabelSeen → List LegHeld → List Leg
legs_of l legs = map (leg_of l) legs

-- the steps of the legs that are held
abbrev pub held_steps : ViewLabelSeen → List LegHeld → List Step
held_steps l legs = way_steps (legs_of l legs)

-- the module stands at this place of this cycle
pub record StandsOn (l : ViewLabelSeen) (m k j : ℕ) : Type 0 where
  pub cycle : k < length l.cycles.rounds
  pub place : j < length (round_at l.cycles k)
  pub is : module_on l.cycles k j ≡ m

-- Legs of an address from the module m, after a chain was told or not: from a module on a cycle a chain comes first, and after it a step. Only the last step may be the continuing one
abbrev pub AreHeld : ViewLabelSeen → ℕ → Bool → List LegHeld → Type 0
AreHeld l m told [] = told ≡ false
AreHeld l m told (IntoHeld s ∷ legs) =
    (told ≡ false → continuing l.grammar m ≡ None) × IsStepOf l.grammar m (step_of s) × (legs ≢ [] → continuing l.grammar m ≢ Some (step_of s)) ×
    AreHeld l (target_of l.grammar (step_of s)) false legs
AreHeld l m told (ChainHeld k j n ∷ legs) =
    (told ≡ false) × StandsOn l m k.0 j × (n < 2 ^ 24) × AreHeld l (module_along l.grammar m (leg_steps (chain_from l.cycles k.0 j n))) true legs
