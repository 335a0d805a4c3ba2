-- The answer of two ports, from their addresses.
use Rattle.std.specs.Prelude.{◌≡◌, ℕ, ◌<◌, Bool, List}
use Rattle.wf_model.specs.Grammar.{Grammar, Assignment, inputs_of, outputs_of}
use Rattle.wf_model.specs.View.{View}
use Rattle.wf_model.specs.Reach.{Step, Reaches}
use Rattle.wf_model.specs.Routes.{Agree}
use Rattle.label_model.specs.Labels.{Label, IsLabel, label_bits}
use Rattle.verdict_model.specs.declared.verdict.Verdict.{Verdict}
use Rattle.verdict_model.specs.declared.verdict.Verdict.TheVariants.{Hidden1, Hidden2, Clash, Yes, No}
use Rattle.verdict_model.specs.Verdicts.{IsVerdict, NeverDepends}
use Rattle.wf_vlabel.specs.Seen.{ViewLabelSeen, IsLabelOfView, full_in, matrices_of}
use Rattle.wf_decode.specs.declared.leg.Leg.{Leg as LegHeld}
use Rattle.wf_decode.specs.declared.decision.ends.End.{End}
use Rattle.wf_decode.specs.Ends.{AreLegsAt, IsConsumingEnd, IsProducingEnd}
use Rattle.wf_decode.specs.Parting.{AreClashingSteps}

-- the legs x and y are those of the addresses a and b, of an instance of the module m that has input i, and of an instance of the module n that has output o
pub record AreEnds (l : ViewLabelSeen) (u : View) (a b : List Step) (x : List LegHeld) (m i : ℕ) (y : List LegHeld) (n o : ℕ) : Type 0 where
  pub first : AreLegsAt l u a m x
  pub input : i < inputs_of l.grammar m
  pub second : AreLegsAt l u b n y
  pub output : o < outputs_of l.grammar n

-- the addresses clash, or they agree and the pairs of the modules tell whether output o of the second is reached from input i of the first
abbrev pub IsAnswerOfAddresses : Grammar → Assignment → List Step → List Step → ℕ → ℕ → Verdict → Type 0
IsAnswerOfAddresses g d a b i o Hidden1 = ⊥
IsAnswerOfAddresses g d a b i o Hidden2 = ⊥
IsAnswerOfAddresses g d a b i o Clash = AreClashingSteps a b
IsAnswerOfAddresses g d a b i o Yes = Agree a b × Reaches g d g.start a b i o
IsAnswerOfAddresses g d a b i o No = Agree a b × (Reaches g d g.start a b i o → ⊥)

-- the verdict on two labels; where it is no, the second item never depends on the first
pub record IsDecision (g : Grammar) (u : View) (x y : Label) (v : Verdict) : Type 0 where
  pub verdict : IsVerdict g u x y v
  pub never : v ≡ No → NeverDepends g u x y

-- what is so of each view that a label of a view is of, and of each two labels with these bits
abbrev pub OfLabels : ViewLabelSeen → List Bool → List Bool → (View → Label → Label → Type 0) → Type 0
OfLabels l first second P =
    (u : View) (x y : Label) → IsLabelOfView l u → IsLabel l.grammar x → IsLabel l.grammar y → first ≡ label_bits x → second ≡ label_bits y → P u x y

-- these are the ends of two labels, and their legs, under a view that the label of a view is of
abbrev pub HaveEnds : ViewLabelSeen → End → List LegHeld → End → List LegHeld → Type 0
HaveEnds l from first to second =
    (u : View) × (x : Label) × (y : Label) × IsLabelOfView l u × IsConsumingEnd l u x from first × IsProducingEnd l u y to second

-- what is so of each such view and two such labels
abbrev pub OfEnds : ViewLabelSeen → End → List LegHeld → End → List LegHeld → (View → Label → Label → Type 0) → Type 0
OfEnds l from first to second P =
    (u : View) (x y : Label) → IsLabelOfView l u → IsLabel l.grammar x → IsLabel l.grammar y → IsConsumingEnd l u x from first → IsProducingEnd l u y to second → P u x y

-- these are the legs of two addresses, of an instance of the module m that has input i and one of the module n that has output o, under a view that the label of a view is of
abbrev pub HaveAddresses : ViewLabelSeen → List LegHeld → ℕ → ℕ → List LegHeld → ℕ → ℕ → Type 0
HaveAddresses l x m i y n o = (u : View) × (a : List Step) × (b : List Step) × IsLabelOfView l u × AreEnds l u a b x m i y n o

-- this is the answer of each such two addresses
abbrev pub AnswersAddresses : ViewLabelSeen → List LegHeld → ℕ → ℕ → List LegHeld → ℕ → ℕ → Verdict → Type 0
AnswersAddresses l x m i y n o v =
    (u : View) (a b : List Step) → IsLabelOfView l u → AreEnds l u a b x m i y n o → IsAnswerOfAddresses l.grammar (full_in (matrices_of l)) a b i o v
