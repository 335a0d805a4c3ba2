-- How a label is read mark by mark under a view.
use Rattle.std.specs.Prelude.{◌≡◌, ◌≢◌, ℕ, ◌+◌, ◌≤◌, IsTrue, Bool, true, false, Option, Some, None, List, [], ◌∷◌, ◌++◌, length, take}
use Rattle.wf_model.specs.Grammar.{Grammar, IsProductionOf}
use Rattle.wf_model.specs.View.{View}
use Rattle.wf_model.specs.Reach.{Step, target_of, module_along}
use Rattle.wf_model.specs.Linear.{IsStepOf}
use Rattle.label_model.specs.Continuing.{continuing, after}
use Rattle.label_model.specs.Labels.{Label, Input, Output, OfEdge}
use Rattle.wf_label.specs.Marks.{Mark, AtInput, AtOutput, Chain, Into, End, BeginMarks}
use Rattle.decode_model.specs.Rounds.{AreContinuing}
use Rattle.wf_model.specs.OpenRoutes.{IsOpenRoute}
use Rattle.verdict_model.specs.Telling.{Tells}
use Rattle.verdict_model.specs.Verdicts.{IsHidden}
use Rattle.wf_vlabel.specs.Seen.{ViewLabelSeen, IsLabelOfView, is_expanded}
use Rattle.wf_decode.specs.declared.leg.Leg.{Leg as LegHeld}
use Rattle.wf_decode.specs.declared.leg.Leg.TheVariants.{Into as IntoHeld, Chain as ChainHeld}
use Rattle.wf_decode.specs.declared.read.Reached.{Reached}
use Rattle.wf_decode.specs.HeldLegs.{AreHeld, StandsOn, held_steps}
use Rattle.wf_decode.specs.declared.read.Told.{Told}
use Rattle.wf_decode.specs.Reading.{IsTold, most_legs}

-- The marks of an address from the module m, after a chain was told or not, and of an ending by the production p and the edge e: continuing steps as one number, each other step, and the end
abbrev pub AreMarksTo : Grammar → ℕ → Bool → List Step → ℕ → ℕ → List Mark → Type 0
AreMarksTo g m told a p e [] = ⊥
AreMarksTo g m told a p e (AtInput k ∷ ms) = ⊥
AreMarksTo g m told a p e (AtOutput k ∷ ms) = ⊥
AreMarksTo g m told a p e (Chain n ∷ ms) =
    (told ≡ false) × (continuing g m ≢ None) ×
    ((chain : List Step) × (rest : List Step) × (a ≡ chain ++ rest) × AreContinuing g m chain × (length chain ≡ n) × AreMarksTo g (module_along g m chain) true rest p e ms)
AreMarksTo g m told a p e (Into s ∷ ms) =
    (told ≡ false → continuing g m ≡ None) × IsStepOf g m s × (continuing g m ≢ Some s) × ((rest : List Step) × (a ≡ s ∷ rest) × AreMarksTo g (target_of g s) false rest p e ms)
AreMarksTo g m told a p e (End q f ∷ ms) = (told ≡ false → continuing g m ≡ None) × IsProductionOf g p m × (a ≡ []) × (q ≡ p) × (f ≡ e)

-- Of the label of an edge the marks up to the module m are read: the view shows each instance that the steps gone so far leave, and the legs are those of these steps
pub record IsReadTo (l : ViewLabelSeen) (u : View) (x : Label) (legs : List LegHeld) (m : ℕ) (marks : List Mark) : Type 0 where
  pub address : List Step
  pub production : ℕ
  pub edge : ℕ
  pub tells : Tells l.grammar x address production edge
  pub gone : List Step
  pub rest : List Step
  pub parts : address ≡ gone ++ rest
  pub told : Bool
  pub ahead : AreMarksTo l.grammar m told rest production edge marks
  pub at : module_along l.grammar l.grammar.start gone ≡ m
  pub open_route : IsOpenRoute l.grammar u l.grammar.start gone
  pub held : (more : List LegHeld) → AreHeld l m told more → AreHeld l l.grammar.start false (legs ++ more)
  pub steps : held_steps l legs ≡ gone

-- of a label these marks are left, and these legs are held
abbrev pub AreLeftOf : ViewLabelSeen → View → Label → List LegHeld → ℕ → List Mark → Type 0
AreLeftOf l u (Input p) legs m marks = marks ≡ AtInput p ∷ []
AreLeftOf l u (Output p) legs m marks = marks ≡ AtOutput p ∷ []
AreLeftOf l u (OfEdge q) legs m marks = IsReadTo l u (OfEdge q) legs m marks

-- and there is room for as many legs more as there are marks left
pub record IsReading (l : ViewLabelSeen) (u : View) (x : Label) (legs : List LegHeld) (m : ℕ) (marks : List Mark) : Type 0 where
  pub left : AreLeftOf l u x legs m marks
  pub room : length legs + length marks ≤ most_legs l.grammar

-- A place of the label is being read at the module m: the bits begin with the marks that are left, after the chain number or before it
abbrev pub IsReadAt : ViewLabelSeen → View → Label → List LegHeld → ℕ → Bool → List Bool → Type 0
IsReadAt l u x legs m told bits = (marks : List Mark) × BeginMarks l.grammar m told bits marks × IsReading l u x legs m marks

-- so it is of some label, under a view that the label of a view is of
abbrev pub HasReadAt : ViewLabelSeen → List LegHeld → ℕ → Bool → List Bool → Type 0
HasReadAt l legs m told bits = (u : View) × (x : Label) × IsLabelOfView l u × IsReadAt l u x legs m told bits

-- behind the chain number, if there is one, a part is left at the module that was reached; or the label is hidden
abbrev pub IsPastChain : ViewLabelSeen → View → Label → List LegHeld → Option Reached → List Bool → Type 0
IsPastChain l u x legs None bits = IsHidden l.grammar u x
IsPastChain l u x legs (Some r) bits = IsReadAt l u x (take r.held legs) r.module.0 true bits

-- so whatever the label is, under whatever view, of which a place was left before
abbrev pub PassesChain : ViewLabelSeen → List LegHeld → Reached → List Bool → List LegHeld → Option Reached → List Bool → Type 0
PassesChain l legs from bits new to left =
    (u : View) (x : Label) → IsLabelOfView l u → IsReadAt l u x (take from.held legs) from.module.0 false bits → IsPastChain l u x new to left

-- what was read of a label of whose place nothing was read before
abbrev pub TellsPlace : ViewLabelSeen → List Bool → Told → List LegHeld → Type 0
TellsPlace l bits told legs = (u : View) (x : Label) → IsLabelOfView l u → IsReadAt l u x [] l.grammar.start false bits → IsTold l u x told legs

-- at most so many continuing steps lead from the module m to a module that the view does not expand
abbrev pub IsCutWithin : ViewLabelSeen → ℕ → ℕ → Type 0
IsCutWithin l m c = (n : ℕ) × (n ≤ c) × (is_expanded l (after l.grammar n m) ≡ false)

-- continuing steps from the module m lead to the module k, and the view expands each module on the way and this one
pub record GoOpen (l : ViewLabelSeen) (m c k : ℕ) : Type 0 where
  pub to : k ≡ after l.grammar c m
  pub expanded : (n : ℕ) → n ≤ c → IsTrue (is_expanded l (after l.grammar n m))

-- the leg holds so many continuing steps from the module m, and they lead to the module k
abbrev pub IsChainHeld : ViewLabelSeen → ℕ → ℕ → LegHeld → ℕ → Type 0
IsChainHeld l m c (IntoHeld s) k = ⊥
IsChainHeld l m c (ChainHeld o j n) k = StandsOn l m o.0 j × (n ≡ c) × GoOpen l m c k
