-- Labels as the definitions see them.
use Rattle.std.specs.Prelude.{◌≡◌, ℕ, ◌+◌, ◌≤◌, Bool, false, List, ◌∷◌, ◌++◌, map, length, Option}
use Rattle.bit_pack.specs.Gamma.{gamma}
use Rattle.wf_model.specs.Grammar.{Grammar}
use Rattle.label_model.specs.Labels.{PlaceStep, Place, Label, Input, Output, OfEdge, chain_bits, label_bits, IsLabel}
use Rattle.wf_label.specs.declared.label.PlaceStep.{PlaceStep as PlaceStepHeld}
use Rattle.wf_label.specs.declared.label.Place.{Place as PlaceHeld}
use Rattle.wf_label.specs.declared.label.Label.{Label as LabelHeld}
use Rattle.wf_label.specs.declared.label.Label.TheVariants.{Input as InputHeld, Output as OutputHeld, OfEdge as OfEdgeHeld}

-- a step
abbrev pub place_step_of : PlaceStepHeld → PlaceStep
place_step_of s = record { chain = s.chain; alternative = s.alternative; position = s.position.0 }

-- a place
abbrev pub label_place_of : PlaceHeld → Place
label_place_of p = record { steps = map place_step_of p.steps; chain = p.chain; alternative = p.alternative; edge = p.edge.0 }

-- a label
abbrev pub label_of : LabelHeld → Label
label_of (InputHeld p) = Input p.0
label_of (OutputHeld p) = Output p.0
label_of (OfEdgeHeld p) = OfEdge (label_place_of p)

-- a label of at most so many steps
abbrev pub HasSteps : ℕ → LabelHeld → Type 0
HasSteps most (InputHeld p) = Unit {0}
HasSteps most (OutputHeld p) = Unit {0}
HasSteps most (OfEdgeHeld p) = length p.steps ≤ most

-- the bits of a label of the grammar
abbrev pub AreLabelBits : Grammar → List Bool → Type 0
AreLabelBits g bits = (l : Label) × IsLabel g l × (bits ≡ label_bits l)

-- an ending up to its edge: its chain number, a zero, and the number of the alternative
abbrev pub alternative_bits : Option ℕ → ℕ → List Bool
alternative_bits chain a = chain_bits chain ++ (false ∷ gamma (a + 1))
