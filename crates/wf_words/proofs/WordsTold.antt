-- Verdicts by an automaton, from those on the labels alone and from those in the lifted grammar.
use Rattle.std.proofs.Common.{◌≡◌, ℕ, List, ◌++◌, Option, Some, None, refl, subst}
use Rattle.wf_model.specs.Grammar.{Grammar}
use Rattle.wf_model.specs.View.{View}
use Rattle.wf_model.specs.declared.event.Event.{Event}
use Rattle.wf_model.specs.Links.{Port}
use Rattle.wf_model.specs.Items.{PathBetween}
use Rattle.label_model.specs.Labels.{Label, IsLabel}
use Rattle.verdict_model.specs.declared.verdict.Verdict.{Verdict}
use Rattle.verdict_model.specs.declared.verdict.Verdict.TheVariants.{Hidden1, Hidden2, Clash, Yes, No}
use Rattle.verdict_model.specs.Verdicts.{IsVerdict, AreShown, AreClashing, NeverDepends}
use Rattle.words_model.specs.Automata.{Automaton}
use Rattle.words_model.specs.Words.{AcceptsBetween}
use Rattle.words_model.specs.Verdicts.{AlwaysAccepts, IsWordVerdict, IsLiftedYes}
use Rattle.words_model.specs.Laws.{LiftSafely}
use Rattle.wf_vlabel.specs.Seen.{ViewLabelSeen, IsLabelOfView}
use Rattle.wf_words.specs.WordViews.{WordViewSeen, AreOfWordView}
use Rattle.words_model.proofs.WordPaths.{word_law}
use Rattle.words_model.proofs.WordAnswers.{word_answer_law}
use Rattle.words_model.proofs.WordVerdicts.{word_verdict_law}

-- a path with an accepted word is a path
path_accepted : (g : Grammar) (u : View) (a : Automaton) (m : ℕ) (events : List Event) (x y : Option (Port (List ℕ))) → AcceptsBetween g u a m events x y → PathBetween g u m events x y
path_accepted g u a m events None y h = absurd h
path_accepted g u a m events (Some x) None h = absurd h
path_accepted g u a m events (Some x) (Some y) h = (word_law g u m events x y).1 (h.0, h.1)

module _ (g : Grammar) (u : View) (a : Automaton) (is : LiftSafely g u a) (x y : Label) (hx : IsLabel g x) (hy : IsLabel g y) where
  -- where no path joins the items at all, no path with an accepted word does
  none_accepted : AreShown g u x y → (AreClashing g x y → ⊥) → NeverDepends g u x y → AlwaysAccepts g u a x y → ⊥
  none_accepted shown apart never always =
      let once = (word_answer_law g u a is x y hx hy shown apart).once.1 always in
      never once.events once.more once.first once.second once.both (path_accepted g u a g.start (once.events ++ once.more) once.first.consumed once.second.produced once.accepts)

  -- a verdict other than yes is also that by the automaton
  pub other_by_words : (v : Verdict) → (v ≡ Yes → ⊥) → IsVerdict g u x y v → (v ≡ No → NeverDepends g u x y) → IsWordVerdict g u a x y v
  other_by_words Hidden1 n h never = h
  other_by_words Hidden2 n h never = h
  other_by_words Clash n h never = h
  other_by_words Yes n h never = absurd (n refl)
  other_by_words No n h never = (h.0, h.1, none_accepted h.0 h.1 (never refl))

  -- where the verdict is yes, that in the lifted grammar decides
  pub yes_by_words : IsLiftedYes g u a x y → IsWordVerdict g u a x y Yes
  yes_by_words h = (word_verdict_law g u a is x y hx hy).yes.1 h

  pub no_by_words : IsVerdict g u x y Yes → (IsLiftedYes g u a x y → ⊥) → IsWordVerdict g u a x y No
  no_by_words h none = (h.0, h.1, λ always. none ((word_answer_law g u a is x y hx hy h.0 h.1).lifted.0 always))

-- what is so of the label of a view, which is that of the view before lifting
pub plain_told : (l : ViewLabelSeen) (w : WordViewSeen) → l ≡ w.plain → (u : View) (x y : Label) → AreOfWordView w u → IsLabel w.plain.grammar x → IsLabel w.plain.grammar y → (P : ViewLabelSeen → Type 0) →
    (IsLabelOfView l u → IsLabel l.grammar x → IsLabel l.grammar y → P l) → P w.plain
plain_told l w e u x y of hx hy P h = subst (λ (z : ViewLabelSeen). (IsLabelOfView z u → IsLabel z.grammar x → IsLabel z.grammar y → P z)) e h of.plain hx hy
