-- Legs that are held and that can be gone under a view.
use Rattle.std.specs.Prelude.{◌<◌, ℕ, List, length}
use Rattle.wf_model.specs.View.{View}
use Rattle.wf_model.specs.Reach.{Step}
use Rattle.wf_recur.specs.Cycles.{round_at}
use Rattle.wf_model.specs.OpenRoutes.{IsOpenRoute}
use Rattle.decode_model.specs.Legs.{IsLeg}
use Rattle.wf_vlabel.specs.Seen.{ViewLabelSeen, IsLabelOfView}
use Rattle.wf_decode.specs.declared.leg.Leg.{Leg as LegHeld}
use Rattle.wf_decode.specs.declared.leg.Leg.TheVariants.{Into as IntoHeld, Chain as ChainHeld}
use Rattle.wf_decode.specs.HeldLegs.{leg_of}

-- the steps, one after another from the module m, leave modules that are seen and expanded under the view
abbrev pub OpensRoute : ViewLabelSeen → ℕ → List Step → Type 0
OpensRoute l m steps = (u : View) × IsLabelOfView l u × IsOpenRoute l.grammar u m steps

-- a chain goes from a place of a cycle
abbrev pub IsPlaced : ViewLabelSeen → LegHeld → Type 0
IsPlaced l (IntoHeld s) = Unit {0}
IsPlaced l (ChainHeld k j n) = (k.0 < length l.cycles.rounds) × (j < length (round_at l.cycles k.0))

-- the leg that is held can be gone under the view
abbrev pub OpensLeg : ViewLabelSeen → LegHeld → Type 0
OpensLeg l leg = IsPlaced l leg × ((u : View) × (m : ℕ) × IsLabelOfView l u × IsLeg l.grammar u m (leg_of l leg))
