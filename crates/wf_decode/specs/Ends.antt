-- The ends of the item of a label under a view: where it is consumed, and where it is produced.
use Rattle.std.specs.Prelude.{◌≡◌, ℕ, ◌<◌, ◌≤◌, false, List, length, take}
use Rattle.wf_model.specs.declared.numbers.Side.{Side}
use Rattle.wf_model.specs.declared.numbers.Side.TheVariants.{Input as InputSide, Output as OutputSide}
use Rattle.wf_model.specs.declared.body.Inner.{Inner}
use Rattle.wf_model.specs.declared.body.Edge.{Edge}
use Rattle.wf_model.specs.Grammar.{inputs_of, outputs_of}
use Rattle.wf_model.specs.View.{View}
use Rattle.wf_model.specs.Reach.{Step, module_along}
use Rattle.label_model.specs.Labels.{Label, Input, Output}
use Rattle.wf_model.specs.OpenRoutes.{IsOpenRoute}
use Rattle.verdict_model.specs.Telling.{ConsumedAt, ProducedAt}
use Rattle.verdict_model.specs.Verdicts.{IsHidden}
use Rattle.wf_vlabel.specs.Seen.{ViewLabelSeen}
use Rattle.wf_decode.specs.declared.leg.Leg.{Leg as LegHeld}
use Rattle.wf_decode.specs.declared.decision.ends.End.{End}
use Rattle.wf_decode.specs.declared.decision.ends.End.TheVariants.{Hidden, Nowhere, At}
use Rattle.wf_decode.specs.HeldLegs.{AreHeld, held_steps}

-- the legs are those of the address a of an instance of the module m, and the view shows each instance that they leave
pub record AreLegsAt (l : ViewLabelSeen) (u : View) (a : List Step) (m : ℕ) (legs : List LegHeld) : Type 0 where
  pub held : AreHeld l l.grammar.start false legs
  pub steps : held_steps l legs ≡ a
  pub open_route : IsOpenRoute l.grammar u l.grammar.start a
  pub module_is : m ≡ module_along l.grammar l.grammar.start a

-- the label is not hidden, and its item is consumed at input i of an instance of the module m, of whose address n legs are held
pub record IsConsumedTold (l : ViewLabelSeen) (u : View) (x : Label) (n m i : ℕ) (legs : List LegHeld) : Type 0 where
  pub address : List Step
  pub consumed : ConsumedAt l.grammar x address i
  pub shown : IsHidden l.grammar u x → ⊥
  pub room : n ≤ length legs
  pub in_range : i < inputs_of l.grammar m
  pub legs_at : AreLegsAt l u address m (take n legs)

-- the label is not hidden, and its item is produced at output o of an instance of the module m, of whose address n legs are held
pub record IsProducedTold (l : ViewLabelSeen) (u : View) (x : Label) (n m o : ℕ) (legs : List LegHeld) : Type 0 where
  pub address : List Step
  pub produced : ProducedAt l.grammar x address o
  pub shown : IsHidden l.grammar u x → ⊥
  pub room : n ≤ length legs
  pub in_range : o < outputs_of l.grammar m
  pub legs_at : AreLegsAt l u address m (take n legs)

-- where the item is consumed: nowhere where it is an output of the root
abbrev pub IsConsumingEnd : ViewLabelSeen → View → Label → End → List LegHeld → Type 0
IsConsumingEnd l u x Hidden legs = IsHidden l.grammar u x
IsConsumingEnd l u x Nowhere legs = (p : ℕ) × (x ≡ Output p)
IsConsumingEnd l u x (At n i) legs = IsConsumedTold l u x n i.module.0 i.port.0 legs

-- where the item is produced: nowhere where it is an input of the root
abbrev pub IsProducingEnd : ViewLabelSeen → View → Label → End → List LegHeld → Type 0
IsProducingEnd l u x Hidden legs = IsHidden l.grammar u x
IsProducingEnd l u x Nowhere legs = (p : ℕ) × (x ≡ Input p)
IsProducingEnd l u x (At n o) legs = IsProducedTold l u x n o.module.0 o.port.0 legs

-- where the item ends on a side: it is consumed on that of inputs, and produced on that of outputs
abbrev pub IsEndOn : Side → ViewLabelSeen → View → Label → End → List LegHeld → Type 0
IsEndOn InputSide l u x e legs = IsConsumingEnd l u x e legs
IsEndOn OutputSide l u x e legs = IsProducingEnd l u x e legs

-- the end of an edge on a side: where it leads, and where it comes from
abbrev pub end_of_edge : Edge → Side → Inner
end_of_edge e InputSide = e.to
end_of_edge e OutputSide = e.from
