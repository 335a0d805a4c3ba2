-- What two labels tell of paths with accepted words.
use Rattle.std.specs.Prelude.{ℕ, List, ◌++◌}
use Rattle.wf_model.specs.Lists.{IsIn}
use Rattle.wf_model.specs.Grammar.{Grammar}
use Rattle.wf_model.specs.View.{View}
use Rattle.wf_model.specs.declared.event.Event.{Event}
use Rattle.wf_model.specs.Items.{Item}
use Rattle.label_model.specs.Labels.{Label}
use Rattle.verdict_model.specs.declared.verdict.Verdict.{Verdict}
use Rattle.verdict_model.specs.declared.verdict.Verdict.TheVariants.{Hidden1, Hidden2, Clash, Yes, No}
use Rattle.verdict_model.specs.Verdicts.{IsHidden, AreShown, AreClashing, HasBoth, IsVerdict}
use Rattle.words_model.specs.Automata.{Automaton}
use Rattle.words_model.specs.Words.{Accepts}
use Rattle.words_model.specs.Lifting.{lift, lift_view, lift_label}

-- in each finishing of each run that has both labels a path with an accepted word joins their items
abbrev pub AlwaysAccepts : Grammar → View → Automaton → Label → Label → Type 0
AlwaysAccepts g u a x y = (events more : List Event) (s t : Item) → HasBoth g u x y events more s t → Accepts g u a (events ++ more) s t

-- in no finishing of any run that has both labels such a path joins them
abbrev pub NeverAccepts : Grammar → View → Automaton → Label → Label → Type 0
NeverAccepts g u a x y = (events more : List Event) (s t : Item) → HasBoth g u x y events more s t → Accepts g u a (events ++ more) s t → ⊥

-- in one finishing of one run that has both labels such a path joins them
pub record AcceptsOnce (g : Grammar) (u : View) (a : Automaton) (x y : Label) : Type 0 where
  pub events : List Event
  pub more : List Event
  pub first : Item
  pub second : Item
  pub both : HasBoth g u x y events more first second
  pub accepts : Accepts g u a (events ++ more) first second

-- the verdict on two labels by an automaton: that on the labels alone, with paths of accepted words for paths
abbrev pub IsWordVerdict : Grammar → View → Automaton → Label → Label → Verdict → Type 0
IsWordVerdict g u a x y Hidden1 = IsHidden g u x
IsWordVerdict g u a x y Hidden2 = (IsHidden g u x → ⊥) × IsHidden g u y
IsWordVerdict g u a x y Clash = AreShown g u x y × AreClashing g x y
IsWordVerdict g u a x y Yes = AreShown g u x y × (AreClashing g x y → ⊥) × AlwaysAccepts g u a x y
IsWordVerdict g u a x y No = AreShown g u x y × (AreClashing g x y → ⊥) × (AlwaysAccepts g u a x y → ⊥)

-- the verdict in the lifted grammar is yes for the first label in the start state and the second in some state that accepts
abbrev pub IsLiftedYes : Grammar → View → Automaton → Label → Label → Type 0
IsLiftedYes g u a x y =
    (t : ℕ) × IsIn t a.accept × IsVerdict (lift g a.states) (lift_view a u) (lift_label a.states a.start x) (lift_label a.states t y) Yes
