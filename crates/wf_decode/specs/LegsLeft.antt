-- Legs of an address that are left behind where two addresses part, and their ways.
use Rattle.std.specs.Prelude.{ℕ, ◌<◌, ◌≤◌, List, length, drop}
use Rattle.wf_model.specs.View.{View}
use Rattle.wf_vlabel.specs.Seen.{ViewLabelSeen, IsLabelOfView}
use Rattle.wf_decode.specs.declared.leg.Leg.{Leg as LegHeld}
use Rattle.wf_decode.specs.declared.decision.legs_left.LegsLeft.{LegsLeft}
use Rattle.wf_decode.specs.HeldWays.{IfHeld, AreRowsBehind, AreColumnsBehind}
use Rattle.wf_decode.specs.Products.{IsWay}

-- the legs that are left
abbrev pub legs_left : LegsLeft → List LegHeld
legs_left left = drop left.from left.legs.now

-- they lead to the module, from one that is seen, under a view that the label of a view is of
abbrev pub LeadOn : ViewLabelSeen → LegsLeft → Type 0
LeadOn l left = (u : View) × (k : ℕ) × IsLabelOfView l u × IsWay l u k (legs_left left) left.at.module.0

-- ways that they have are rows from the input of the module
pub record HaveRows (l : ViewLabelSeen) (left : LegsLeft) : Type 0 where
  pub within : left.from ≤ length left.legs.now
  pub rows : IfHeld left.ways.now (AreRowsBehind l left.from left.legs.now left.at.module.0 left.at.port.0 left.ways.now)

-- ways that they have are columns to the output of the module
pub record HaveColumns (l : ViewLabelSeen) (left : LegsLeft) : Type 0 where
  pub within : left.from ≤ length left.legs.now
  pub output : left.at.port.0 < 64
  pub columns : IfHeld left.ways.now (AreColumnsBehind l left.from left.legs.now left.at.module.0 left.at.port.0 left.ways.now)
