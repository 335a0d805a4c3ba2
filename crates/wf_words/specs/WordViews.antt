-- An automaton with the label of a view and that of the lifted view, and what they tell of two labels.
use Rattle.std.specs.Prelude.{◌≡◌, ◌==◌, ℕ, Bool, List, length}
use Rattle.std.specs.List.{filter}
use Rattle.wf_model.specs.Lists.{IsIn, some, numbers_from}
use Rattle.wf_model.specs.View.{View}
use Rattle.label_model.specs.Labels.{Label, IsLabel, label_bits}
use Rattle.verdict_model.specs.declared.verdict.Verdict.TheVariants.{Yes}
use Rattle.verdict_model.specs.Verdicts.{IsVerdict}
use Rattle.words_model.specs.Automata.{Automaton}
use Rattle.words_model.specs.Lifting.{lift, lift_view, lift_label}
use Rattle.words_model.specs.Laws.{Fits, LiftSafely}
use Rattle.wf_vlabel.specs.Seen.{ViewLabelSeen, IsLabelOfView}

-- an automaton, the label of a view, and the label of the lifted view
pub record WordViewSeen : Type 0 where
  pub automaton : Automaton
  pub plain : ViewLabelSeen
  pub lifted : ViewLabelSeen

-- the automaton fits the grammar of the one label, and the other is of the lifted grammar
pub record IsWordView (w : WordViewSeen) : Type 0 where
  pub fits : Fits w.plain.grammar w.automaton
  pub lifted : w.lifted.grammar ≡ lift w.plain.grammar w.automaton.states

-- the labels are those of this view, before and after lifting, and the laws speak of it
pub record AreOfWordView (w : WordViewSeen) (u : View) : Type 0 where
  pub plain : IsLabelOfView w.plain u
  pub lifted : IsLabelOfView w.lifted (lift_view w.automaton u)
  pub safely : LiftSafely w.plain.grammar u w.automaton

-- what is so of each such view, and of each two labels with these bits
abbrev pub OfWords : WordViewSeen → List Bool → List Bool → (View → Label → Label → Type 0) → Type 0
OfWords w first second P =
    (u : View) (x y : Label) → AreOfWordView w u → IsLabel w.plain.grammar x → IsLabel w.plain.grammar y → first ≡ label_bits x → second ≡ label_bits y → P u x y

-- what is so of each such view, of each label of the lifted grammar with the first bits, and of each label before lifting with the second
abbrev pub OfLifted : WordViewSeen → List Bool → List Bool → (View → Label → Label → Type 0) → Type 0
OfLifted w first second P =
    (u : View) (x y : Label) → IsLabelOfView w.lifted (lift_view w.automaton u) → IsLabel w.lifted.grammar x → IsLabel w.plain.grammar y → first ≡ label_bits x → second ≡ label_bits y → P u x y

-- the state t accepts, and in the lifted grammar the verdict on the label x, and on the label y in this state, is yes
abbrev pub IsYesIn : WordViewSeen → View → Label → Label → ℕ → Type 0
IsYesIn w u x y t = IsIn t w.automaton.accept × IsVerdict w.lifted.grammar (lift_view w.automaton u) x (lift_label w.automaton.states t y) Yes

-- how many of the states below n accept
abbrev pub accepting_below : Automaton → ℕ → ℕ
accepting_below a n = length (filter (λ s. some (λ t. t == s) a.accept) (numbers_from 0 n))

-- how many states accept
abbrev pub accepting_states : Automaton → ℕ
accepting_states a = accepting_below a a.states
