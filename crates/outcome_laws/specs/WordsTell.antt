-- What labels tell of paths with accepted words, the run tells.
use Rattle.std.specs.Prelude.{◌≡◌, ◌⊎◌, ◌↔◌, ℕ, Bool, true, false, List, ◌++◌, Option, Some, None, codes}
use Rattle.wf_model.specs.declared.event.Event.{Event}
use Rattle.wf_model.specs.Grammar.{Grammar}
use Rattle.wf_model.specs.View.{View}
use Rattle.wf_model.specs.Safe.{IsSafe}
use Rattle.wf_model.specs.Run.{IsAccepted}
use Rattle.wf_model.specs.Items.{Item, items}
use Rattle.wf_model.specs.Finishing.{IsFinishing}
use Rattle.wf_spec.specs.Held.{HeldGrammar}
use Rattle.label_model.specs.Files.{Entry}
use Rattle.words_model.specs.Automata.{Automaton}
use Rattle.words_model.specs.Words.{Accepts}
use Rattle.words_model.specs.Lifting.{lift, lift_view}
use Rattle.words_model.specs.Laws.{Fits}
use Rattle.wf_words.specs.Answers.{IsWordByWords}
use Rattle.wf_flat.specs.Item.{item_named}
use Rattle.wf_flat.specs.Shown.{are_visible}
use Rattle.wf_inputs.specs.Inputs.{instance_most}
use Rattle.wf_inputs.specs.LabelsTold.{TellsEntries}
use Rattle.cmd_ingest.specs.Ingested.{file_of}
use Rattle.outcome_laws.specs.Laws.{IsOneOf, IsViewedSafely}

-- the answer for two visible items: whether a path with an accepted word leads from the first to the second in the finished run f
abbrev pub IsPathOfRun : Grammar → View → Automaton → List Event → Item → Item → List ℕ → Type 0
IsPathOfRun g u a f x y line = ((line ≡ codes "yes") × Accepts g u a f x y) ⊎ ((line ≡ codes "no") × ¬ Accepts g u a f x y)

-- the answer for two items, by whether both are visible
abbrev pub IsPathShown : Bool → Grammar → View → Automaton → List Event → Item → Item → List ℕ → Type 0
IsPathShown true g u a f x y line = IsPathOfRun g u a f x y line
IsPathShown false g u a f x y line = line ≡ codes "hidden"

-- The answer for two items of the run e that may not be there, where f is a finishing of e
abbrev pub IsPathFor : Grammar → View → Automaton → List Event → List Event → Option Item → Option Item → List ℕ → Type 0
IsPathFor g u a e f None y line = line ≡ codes "unknown"
IsPathFor g u a e f (Some x) None line = line ≡ codes "unknown"
IsPathFor g u a e f (Some x) (Some y) line = IsPathShown (are_visible g u e x y) g u a f x y line

-- The answer by an automaton to a query on a run e is one and the same for every finishing of it: yes where in each of them a path with an accepted word leads from the first item to the second, and no where in none of them one does
abbrev pub IsPathAnswerOfRun : Grammar → View → Automaton → List Event → List ℕ → List ℕ → List ℕ → Type 0
IsPathAnswerOfRun g u a e first second line =
    (more : List Event) → IsFinishing g u g.start e more →
    IsPathFor g u a e (e ++ more) (item_named (items g g.start e) first) (item_named (items g g.start e) second) line

-- What the labels of a run tell by words, the run tells, also where they were made by an earlier version of the grammar. Let a view be safe, and so the lifted view of an automaton that fits. Then a query by words is answered from the entries of the label file of an accepted run by a word exactly if this word answers it in each finishing of the run
abbrev pub WordsTellLaw : Type 0
WordsTellLaw =
    (h : HeldGrammar) (u : View) → IsViewedSafely h u → (g : Grammar) → IsOneOf h g →
    (e : List Event) → IsAccepted g instance_most e → (entries : List Entry) → TellsEntries h (file_of g e) entries →
    (a : Automaton) → Fits h.core a → IsSafe (lift h.core a.states) (lift_view a u) →
    (first second word : List ℕ) → IsWordByWords h.core u a entries first second word ↔ IsPathAnswerOfRun h.core u a e first second word
