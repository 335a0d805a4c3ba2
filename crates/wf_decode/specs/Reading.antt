-- What is read of a label under a view.
use Rattle.std.specs.Prelude.{◌≡◌, ℕ, ◌*◌, ◌<◌, Bool, false, List, [], ◌∷◌, ◌++◌, length, take}
use Rattle.wf_model.specs.Grammar.{Grammar, body_of}
use Rattle.wf_model.specs.declared.body.Step.{Step as StepHeld}
use Rattle.wf_model.specs.View.{View}
use Rattle.wf_model.specs.Reach.{Step}
use Rattle.label_model.specs.Labels.{Label, Input, Output, IsLabel, label_bits}
use Rattle.wf_recur.specs.Cycles.{step_of}
use Rattle.wf_model.specs.OpenRoutes.{IsOpenRoute}
use Rattle.verdict_model.specs.Telling.{Tells}
use Rattle.verdict_model.specs.Verdicts.{IsHidden}
use Rattle.wf_vlabel.specs.Seen.{ViewLabelSeen, IsLabelOfView}
use Rattle.wf_decode.specs.declared.leg.Leg.{Leg as LegHeld}
use Rattle.wf_decode.specs.declared.leg.Leg.TheVariants.{Into as IntoHeld}
use Rattle.wf_decode.specs.declared.read.Told.{Told}
use Rattle.wf_decode.specs.declared.read.Told.TheVariants.{Hidden, Input as InputTold, Output as OutputTold, Edge as EdgeTold}
use Rattle.wf_decode.specs.HeldLegs.{AreHeld, held_steps}

-- no label has more legs, the last step into the position where its item is consumed or produced among them: one step for each strong component, and one chain for each cycle
abbrev pub most_legs : Grammar → ℕ
most_legs g = 2 * length g.modules

-- with a step by the production p after them, the legs are those of the address a and this step, and the view shows each instance that they leave
pub record AreLegsTo (l : ViewLabelSeen) (u : View) (a : List Step) (p : ℕ) (legs : List LegHeld) (s : StepHeld) : Type 0 where
  pub held : AreHeld l l.grammar.start false (legs ++ IntoHeld s ∷ [])
  pub steps : held_steps l (legs ++ IntoHeld s ∷ []) ≡ a ++ step_of s ∷ []
  pub open_route : IsOpenRoute l.grammar u l.grammar.start (a ++ step_of s ∷ [])

-- The label of an edge was read: the address of its maker, its production and its edge, and so many legs are held of the address. The label is not hidden
pub record IsEdgeTold (l : ViewLabelSeen) (u : View) (x : Label) (n p e : ℕ) (legs : List LegHeld) : Type 0 where
  pub address : List Step
  pub tells : Tells l.grammar x address p e
  pub shown : IsHidden l.grammar u x → ⊥
  pub room : n < length legs
  pub legs_to : (s : StepHeld) → s.production.0 ≡ p → s.position.0 < length (body_of l.grammar p) → AreLegsTo l u address p (take n legs) s

-- what was read of the label
abbrev pub IsTold : ViewLabelSeen → View → Label → Told → List LegHeld → Type 0
IsTold l u x Hidden legs = IsHidden l.grammar u x
IsTold l u x (InputTold p) legs = x ≡ Input p.0
IsTold l u x (OutputTold p) legs = x ≡ Output p.0
IsTold l u x (EdgeTold n p e) legs = IsEdgeTold l u x n p.0 e.0 legs

-- what was read of the label with these bits, whatever label that is, under whatever view that the label of a view is of
abbrev pub TellsLabel : ViewLabelSeen → List Bool → Told → List LegHeld → Type 0
TellsLabel l bits told legs = (u : View) (x : Label) → IsLabelOfView l u → IsLabel l.grammar x → bits ≡ label_bits x → IsTold l u x told legs
