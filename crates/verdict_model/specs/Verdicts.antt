-- What two labels tell under a view: whether the item of the second depends on the item of the first.
use Rattle.std.specs.Prelude.{◌≡◌, ◌≢◌, ℕ, false, List, ◌++◌}
use Rattle.wf_model.specs.Grammar.{Grammar}
use Rattle.wf_model.specs.View.{View, expands}
use Rattle.wf_model.specs.declared.event.Event.{Event}
use Rattle.wf_model.specs.Run.{IsRun}
use Rattle.wf_model.specs.Finishing.{IsFinishing}
use Rattle.wf_model.specs.Reach.{Step, module_along}
use Rattle.wf_model.specs.Items.{Item, Depends}
use Rattle.label_model.specs.Labels.{Label}
use Rattle.label_model.specs.RunLabels.{HasLabel}
use Rattle.verdict_model.specs.Telling.{Names}
use Rattle.verdict_model.specs.declared.verdict.Verdict.{Verdict}
use Rattle.verdict_model.specs.declared.verdict.Verdict.TheVariants.{Hidden1, Hidden2, Clash, Yes, No}

-- a label is hidden where it names a production at an instance whose module the view does not expand
abbrev pub IsHidden : Grammar → View → Label → Type 0
IsHidden g u l = (c : List Step) × (r : ℕ) × Names g l c r × (expands u (module_along g g.start c) ≡ false)

-- neither label is hidden
abbrev pub AreShown : Grammar → View → Label → Label → Type 0
AreShown g u x y = (IsHidden g u x → ⊥) × (IsHidden g u y → ⊥)

-- two labels clash where they name different productions at one address
abbrev pub AreClashing : Grammar → Label → Label → Type 0
AreClashing g x y = (c : List Step) × (r : ℕ) × (q : ℕ) × Names g x c r × Names g y c q × (r ≢ q)

-- a run has both labels, and is finished by more events
pub record HasBoth (g : Grammar) (u : View) (x y : Label) (events more : List Event) (s t : Item) : Type 0 where
  pub run : IsRun g g.start events
  pub first : HasLabel g events s x
  pub second : HasLabel g events t y
  pub finishing : IsFinishing g u g.start events more

-- in each finishing of each run that has both labels the second item depends on the first
abbrev pub AlwaysDepends : Grammar → View → Label → Label → Type 0
AlwaysDepends g u x y = (events more : List Event) (s t : Item) → HasBoth g u x y events more s t → Depends g u (events ++ more) s t

-- in no finishing of any run that has both labels the second item depends on the first
abbrev pub NeverDepends : Grammar → View → Label → Label → Type 0
NeverDepends g u x y = (events more : List Event) (s t : Item) → HasBoth g u x y events more s t → Depends g u (events ++ more) s t → ⊥

-- the verdict on two labels: the first of these that applies
abbrev pub IsVerdict : Grammar → View → Label → Label → Verdict → Type 0
IsVerdict g u x y Hidden1 = IsHidden g u x
IsVerdict g u x y Hidden2 = (IsHidden g u x → ⊥) × IsHidden g u y
IsVerdict g u x y Clash = AreShown g u x y × AreClashing g x y
IsVerdict g u x y Yes = AreShown g u x y × (AreClashing g x y → ⊥) × AlwaysDepends g u x y
IsVerdict g u x y No = AreShown g u x y × (AreClashing g x y → ⊥) × (AlwaysDepends g u x y → ⊥)
