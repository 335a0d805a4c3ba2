-- Laws of the lengths of labels.
use Rattle.std.specs.Prelude.{ℕ, ◌*◌, ◌^◌, ◌<◌, ◌≤◌, List, [], ◌∷◌, ◌++◌, length}
use Rattle.wf_model.specs.Lists.{IsIn}
use Rattle.wf_model.specs.Grammar.{Grammar}
use Rattle.wf_model.specs.WellFormed.{IsWellFormed}
use Rattle.wf_model.specs.declared.event.Event.{Event}
use Rattle.wf_model.specs.Run.{IsAccepted, made}
use Rattle.wf_model.specs.Linear.{IsLinear}
use Rattle.wf_model.specs.Items.{Item}
use Rattle.bit_pack.specs.Gamma.{digits}
use Rattle.label_model.specs.Labels.{Place, Label, OfEdge, label_bits, IsPlace, IsLabel}
use Rattle.label_model.specs.RunLabels.{labels_by, labelled}
use Rattle.label_model.specs.Bound.{expand_events, ChainsBelow, bound, bits_per_digit, most_bits}

-- a label whose chain numbers are below n has at most as many bits as the bound says
abbrev pub LengthLaw : Type 0
LengthLaw = (g : Grammar) → IsWellFormed g → IsLinear g → (p : Place) (n : ℕ) → IsPlace g g.start p → ChainsBelow n p → length (label_bits (OfEdge p)) ≤ bound g n

-- a label of a port of the root has at most 15 bits, and one that is made at the n-th expand event has at most as many as the bound says
abbrev pub BoundLaw : Type 0
BoundLaw =
    (g : Grammar) → IsWellFormed g → IsLinear g → (before : List Event) (e : Event) → IsAccepted g (2 ^ 24) (before ++ e ∷ []) →
    (l : Label) → IsIn l (labels_by g (before ++ e ∷ []) e) → length (label_bits l) ≤ most_bits g e (expand_events (before ++ e ∷ []))

-- Each label of an accepted run is within the bound for the number of its expand events. So it has at most as many bits as this number, or the number of instances, has binary digits, times a number that the grammar tells
abbrev pub DigitsLaw : Type 0
DigitsLaw =
    (g : Grammar) → IsWellFormed g → IsLinear g → (events : List Event) → IsAccepted g (2 ^ 24) events → (t : Item) (l : Label) → IsIn (t, l) (labelled g events) →
    record {
      within : length (label_bits l) ≤ bound g (expand_events events);
      expansions : 0 < expand_events events → length (label_bits l) ≤ bits_per_digit g * digits (expand_events events);
      instances : length (label_bits l) ≤ bits_per_digit g * digits (length (made g g.start events));
    }

-- a label has fewer than 2^17 bits
abbrev pub RoomLaw : Type 0
RoomLaw = (g : Grammar) → IsWellFormed g → IsLinear g → (l : Label) → IsLabel g l → length (label_bits l) < 2 ^ 17
