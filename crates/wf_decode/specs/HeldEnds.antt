-- Where the item of a label ends, held for decisions with many other labels.
use Rattle.std.specs.Prelude.{◌≡◌, ℕ, ◌≤◌, Bool, List, length, take}
use Rattle.wf_model.specs.declared.numbers.Side.{Side}
use Rattle.wf_model.specs.View.{View}
use Rattle.label_model.specs.Labels.{Label, IsLabel, label_bits}
use Rattle.wf_label.specs.Values.{AreLabelBits}
use Rattle.wf_vlabel.specs.Seen.{ViewLabelSeen, IsLabelOfView}
use Rattle.wf_decode.specs.declared.leg.Leg.{Leg as LegHeld}
use Rattle.wf_decode.specs.declared.decision.ends.End.{End}
use Rattle.wf_decode.specs.declared.decision.ends.End.TheVariants.{Hidden, Nowhere, At}
use Rattle.wf_decode.specs.Ends.{IsEndOn}
use Rattle.wf_decode.specs.HeldWays.{AreWaysOf}
use Rattle.wf_decode.specs.Reading.{most_legs}

-- what contracts see of a held end: the bits of its label, the end, legs, and the ways of the end
pub record HeldEndSeen : Type 0 where
  pub bits : List Bool
  pub end : End
  pub legs : List LegHeld
  pub ways : List ℕ

-- the legs of an end stand among so many
abbrev pub FitsIn : End → ℕ → Type 0
FitsIn Hidden k = Unit {0}
FitsIn Nowhere k = Unit {0}
FitsIn (At n i) k = n ≤ k

-- the legs of an end stand first in both lists
abbrev pub AreAlikeAt : End → List LegHeld → List LegHeld → Type 0
AreAlikeAt Hidden from to = Unit {0}
AreAlikeAt Nowhere from to = Unit {0}
AreAlikeAt (At n i) from to = (take n to ≡ take n from) × (n ≤ length to)

-- a label was read on a side, under the label of a view: its end, and the ways of the end
pub record IsHeldEnd (l : ViewLabelSeen) (side : Side) (h : HeldEndSeen) : Type 0 where
  pub label : AreLabelBits l.grammar h.bits
  pub fits : FitsIn h.end (length h.legs)
  pub few : length h.legs ≤ most_legs l.grammar
  pub ends : (u : View) (x : Label) → IsLabelOfView l u → IsLabel l.grammar x → h.bits ≡ label_bits x → IsEndOn side l u x h.end h.legs
  pub ways : AreWaysOf side l h.end h.legs h.ways
