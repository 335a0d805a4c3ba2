-- Laws of labels under a view: which are hidden, which clash, and what two of them tell.
use Rattle.std.specs.Prelude.{◌≡◌, ◌↔◌, ◌⊎◌, ℕ, List, ◌++◌}
use Rattle.wf_model.specs.Grammar.{Grammar, Assignment}
use Rattle.wf_model.specs.WellFormed.{IsWellFormed}
use Rattle.wf_model.specs.Proper.{IsProper}
use Rattle.wf_model.specs.View.{View}
use Rattle.wf_model.specs.Safe.{IsSafe, IsFull}
use Rattle.wf_model.specs.declared.event.Event.{Event}
use Rattle.wf_model.specs.Run.{IsRun}
use Rattle.wf_model.specs.Finishing.{ExpandsComposites}
use Rattle.wf_model.specs.Reach.{Step, Reaches}
use Rattle.wf_model.specs.Items.{Item, IsVisible, Depends}
use Rattle.label_model.specs.Labels.{Label, Input, Output, OfEdge, Place, IsLabel}
use Rattle.label_model.specs.RunLabels.{HasLabel}
use Rattle.verdict_model.specs.declared.verdict.Verdict.{Verdict}
use Rattle.verdict_model.specs.Telling.{Tells, ConsumedAt, ProducedAt}
use Rattle.verdict_model.specs.Verdicts.{IsHidden, AreShown, AreClashing, HasBoth, AlwaysDepends, NeverDepends, IsVerdict}

-- the label of a place of the grammar tells one address, one production and one edge
abbrev pub TellingLaw : Type 0
TellingLaw =
    (g : Grammar) → IsWellFormed g →
    record {
      each : (q : Place) → IsLabel g (OfEdge q) → (a : List Step) × (p : ℕ) × (e : ℕ) × Tells g (OfEdge q) a p e;
      one : (l : Label) (a b : List Step) (p q e f : ℕ) → Tells g l a p e → Tells g l b q f → (a ≡ b) × (p ≡ q) × (e ≡ f);
    }

-- an item of a run has its label in each run that goes on from it, and is visible there if it was; it is visible exactly if its label is not hidden
abbrev pub KeptLaw : Type 0
KeptLaw =
    (g : Grammar) (u : View) → IsWellFormed g → (events more : List Event) → IsRun g g.start (events ++ more) → (t : Item) (l : Label) → HasLabel g events t l →
    record {
      label : HasLabel g (events ++ more) t l;
      visible : IsVisible g u g.start (events ++ more) t ↔ IsVisible g u g.start events t;
      shown : IsVisible g u g.start events t ↔ (IsHidden g u l → ⊥);
    }

-- a label of the grammar is hidden or not, and two clash or not
abbrev pub EitherLaw : Type 0
EitherLaw =
    (g : Grammar) (u : View) → IsWellFormed g → (x y : Label) → IsLabel g x → IsLabel g y →
    record {
      hidden : IsHidden g u x ⊎ (IsHidden g u x → ⊥);
      clash : AreClashing g x y ⊎ (AreClashing g x y → ⊥);
    }

-- no run has two labels that clash
abbrev pub NoClashLaw : Type 0
NoClashLaw =
    (g : Grammar) → IsWellFormed g → (events : List Event) → IsRun g g.start events → (s t : Item) (x y : Label) → HasLabel g events s x → HasLabel g events t y → AreClashing g x y → ⊥

-- two labels of the grammar that do not clash have a run that has both
abbrev pub BothLaw : Type 0
BothLaw =
    (g : Grammar) → IsWellFormed g → (x y : Label) → IsLabel g x → IsLabel g y → (AreClashing g x y → ⊥) →
    (events : List Event) × IsRun g g.start events × ((s : Item) × HasLabel g events s x) × ((t : Item) × HasLabel g events t y)

-- Let the view be safe, and neither label hidden. What holds in one finishing of one run that has both labels holds in every finishing of every such run; so where the second item does not depend on the first in all of them, it does in none
abbrev pub OneAnswerLaw : Type 0
OneAnswerLaw =
    (g : Grammar) (u : View) → IsWellFormed g → IsProper g → ExpandsComposites g u → IsSafe g u → (x y : Label) → AreShown g u x y →
    record {
      always : (events more : List Event) (s t : Item) → HasBoth g u x y events more s t → Depends g u (events ++ more) s t → AlwaysDepends g u x y;
      never : (AlwaysDepends g u x y → ⊥) → NeverDepends g u x y;
    }

-- two labels have one verdict at most
abbrev pub OneVerdictLaw : Type 0
OneVerdictLaw = (g : Grammar) (u : View) (x y : Label) (v w : Verdict) → IsVerdict g u x y v → IsVerdict g u x y w → v ≡ w

-- The answer of two labels of the grammar, neither of them hidden, that do not clash, where all expansions join the pairs of the modules: it is told by where the first item is consumed, where the second is produced, and these pairs. An output of the root is consumed nowhere and an input of the root is produced nowhere, so there nothing depends
pub record IsAnswered (g : Grammar) (u : View) (d : Assignment) (x y : Label) : Type 0 where
  pub yes : (a b : List Step) (i o : ℕ) → ConsumedAt g x a i → ProducedAt g y b o → Reaches g d g.start a b i o → AlwaysDepends g u x y
  pub no : (a b : List Step) (i o : ℕ) → ConsumedAt g x a i → ProducedAt g y b o → (Reaches g d g.start a b i o → ⊥) → NeverDepends g u x y × (AlwaysDepends g u x y → ⊥)
  pub from_output : (p : ℕ) → x ≡ Output p → NeverDepends g u x y × (AlwaysDepends g u x y → ⊥)
  pub to_input : (p : ℕ) → y ≡ Input p → NeverDepends g u x y × (AlwaysDepends g u x y → ⊥)

-- the full assignment of a view, which a safe view has, tells the answer of two labels
abbrev pub AnswerLaw : Type 0
AnswerLaw =
    (g : Grammar) (u : View) (d : Assignment) → IsWellFormed g → IsProper g → ExpandsComposites g u → IsFull g u d →
    (x y : Label) → IsLabel g x → IsLabel g y → AreShown g u x y → (AreClashing g x y → ⊥) → IsAnswered g u d x y
