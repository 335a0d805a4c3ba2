-- Queries are answered alike over files that tell runs with the same events.
use Rattle.std.proofs.Common.{ℕ, List, [], refl, inl}
use Rattle.std.specs.Prelude.{◌↔◌}
use Rattle.wf_model.specs.Lists.{IsIn}
use Rattle.wf_model.specs.declared.event.Event.{Event}
use Rattle.wf_model.specs.Grammar.{Grammar}
use Rattle.wf_model.specs.View.{View}
use Rattle.wf_model.specs.Run.{IsAccepted}
use Rattle.wf_spec.specs.Held.{HeldGrammar}
use Rattle.wf_io.specs.Told.{File}
use Rattle.wf_io.specs.Lines.{lines_in}
use Rattle.label_model.specs.Files.{entries_of}
use Rattle.report_model.proofs.Reordered.{reordered_law}
use Rattle.version_model.specs.Versions.{AreBuiltAlike}
use Rattle.wf_query.specs.Answers.{IsAnswerText}
use Rattle.wf_query.proofs.AnsweredLines.{answered_too}
use Rattle.wf_message.specs.Endings.{End}
use Rattle.wf_stage.specs.Stages.{IsTold, Holds}
use Rattle.wf_stage.specs.Outcomes.{AreSame}
use Rattle.wf_inputs.specs.Inputs.{labels_kind, instance_most}
use Rattle.wf_inputs.specs.RunTold.{TellsEvents, goes_on}
use Rattle.wf_inputs.proofs.OneRun.{events_accepted, events_goes_on}
use Rattle.cmd_ask.specs.Answers.{IsAnswerOfRun}
use Rattle.wf_asking.specs.Queries.{QueriesStage}
use Rattle.cmd_ask.specs.Does.{AnswersRun, AnswersLabels}
use Rattle.wf_asking.proofs.OneQueries.{one_queries_stage}
use Rattle.cmd_ask.proofs.OneWord.{one_run_word}
use Rattle.cmd_ingest.specs.Ingested.{file_of}
use Rattle.outcome_laws.specs.Laws.{IsViewedSafely, AreAnsweredAlike, ReorderedAnswersLaw}
use Rattle.outcome_laws.proofs.SameEntries.{answer_too}
use Rattle.outcome_laws.proofs.OlderFiles.{file_opens}
use Rattle.outcome_laws.proofs.LabelsTell.{labels_tell_law}
use Rattle.outcome_laws.proofs.LabelsAnswer.{labels_answer_law}

module _ (h : HeldGrammar) (u : View) (viewed : IsViewedSafely h u) where
  abbrev g : Grammar
  g = h.core

  -- a grammar is built as it is itself
  itself : AreBuiltAlike g g
  itself = record { start = refl; modules = refl; productions = refl }

  -- a query has the words that the entries of a run answer
  by_entries : (e : List Event) → IsAccepted g instance_most e → (first second word : List ℕ) → IsAnswerText g u (entries_of g e) first second word ↔ IsAnswerOfRun g u e first second word
  by_entries e acc = labels_tell_law h u viewed g (inl itself) e acc (entries_of g e) (file_opens h u viewed e g (inl itself) acc)

  -- a word that answers on a run answers on each run with the same events
  word_too : (e f : List Event) → IsAccepted g instance_most e → IsAccepted g instance_most f → ((x : Event) → IsIn x e ↔ IsIn x f) →
      (first second word : List ℕ) → IsAnswerOfRun g u e first second word → IsAnswerOfRun g u f first second word
  word_too e f acc too same first second word w =
      let entries = (reordered_law g e f viewed.formed acc.0 too.0 same).entries in
      (by_entries f too first second word).0 (answer_too g (entries_of g e) (entries_of g f) entries u first second word ((by_entries e acc first second word).1 w))

  module _ (events other queries : File) (e f : List Event) (run : TellsEvents g instance_most (lines_in events) e) (again : TellsEvents g instance_most (lines_in other) f) (same : (x : Event) → IsIn x e ↔ IsIn x f) where
    -- so QUERIES has the same answers on both runs
    queries_too : (d : End) (t : List ℕ) → QueriesStage (IsAnswerOfRun g u e) queries d t → QueriesStage (IsAnswerOfRun g u f) queries d t
    queries_too d t w = (w.0, answered_too (IsAnswerOfRun g u e) (IsAnswerOfRun g u f) (word_too e f (events_accepted g instance_most (lines_in events) e run) (events_accepted g instance_most (lines_in other) f again) same) (lines_in queries) w.0 t w.1, w.2)

    -- and over both files
    pub run_too : (d : End) (t : List ℕ) → AnswersRun g u events queries d t → AnswersRun g u other queries d t
    run_too d t w = goes_on f again (queries_too d t (events_goes_on g instance_most (lines_in events) (λ r. []) (λ r. QueriesStage (IsAnswerOfRun g u r) queries) e run d t w))

    -- there is one such answer
    pub one_answer : (d c : End) (t s : List ℕ) → AnswersRun g u events queries d t → AnswersRun g u other queries c s → AreSame d c t s
    one_answer d c t s p q =
        let go = events_goes_on g instance_most (lines_in other) (λ r. []) (λ r. QueriesStage (IsAnswerOfRun g u r) queries) f again in
        one_queries_stage (IsAnswerOfRun g u f) (one_run_word g u f viewed.proper viewed.composites (events_accepted g instance_most (lines_in other) f again).0) queries d c t s (go d t (run_too d t p)) (go c s q)

  module _ (events other queries : File) (e f : List Event) (run : TellsEvents g instance_most (lines_in events) e) (again : TellsEvents g instance_most (lines_in other) f) (same : (x : Event) → IsIn x e ↔ IsIn x f) where
    over_files : (d : End) (t : List ℕ) → AnswersRun g u events queries d t ↔ AnswersRun g u other queries d t
    over_files d t = (run_too events other queries e f run again same d t, run_too other events queries f e again run (λ x. ((same x).1, (same x).0)) d t)

    -- what is answered over the labels of a run is answered over its events
    over_labels : (labels others : File) → IsTold labels_kind labels Holds (file_of g e) → IsTold labels_kind others Holds (file_of g f) → (d : End) (t : List ℕ) → AnswersLabels h u labels queries d t ↔ AnswersLabels h u others queries d t
    over_labels labels others file file_too d t =
        let first = (labels_answer_law h u viewed g (inl itself) events labels queries e run file).0 d t in
        let second = (labels_answer_law h u viewed g (inl itself) other others queries f again file_too).0 d t in
        let alike = over_files d t in
        (λ w. second.0 (alike.0 (first.1 w)), λ w. first.0 (alike.1 (second.1 w)))

    answered_alike : AreAnsweredAlike h u events other queries e f
    answered_alike = record { traced = over_files; asked = over_labels }

pub reordered_answers_law : ReorderedAnswersLaw
reordered_answers_law h u viewed events other queries e f run again same =
    answered_alike h u viewed events other queries e f run again same
