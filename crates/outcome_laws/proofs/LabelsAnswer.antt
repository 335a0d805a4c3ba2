-- Queries are answered over the label file of a run as they are over its events.
use Rattle.std.proofs.Common.{ℕ, List, [], subst}
use Rattle.std.specs.Prelude.{◌↔◌}
use Rattle.wf_model.specs.declared.event.Event.{Event}
use Rattle.wf_model.specs.Grammar.{Grammar}
use Rattle.wf_model.specs.View.{View}
use Rattle.wf_model.specs.Run.{IsAccepted}
use Rattle.wf_spec.specs.Held.{HeldGrammar}
use Rattle.wf_io.specs.Told.{File}
use Rattle.wf_io.specs.Lines.{lines_in}
use Rattle.label_model.specs.Files.{Entry, entries_of}
use Rattle.wf_query.specs.Answers.{IsAnswerText}
use Rattle.wf_query.proofs.AnsweredLines.{answered_too}
use Rattle.wf_message.specs.Endings.{End}
use Rattle.wf_stage.specs.Stages.{goes_on, OfWhole, IsTold, Holds}
use Rattle.wf_stage.specs.Outcomes.{AreSame}
use Rattle.wf_stage.proofs.TwoStages.{stage_goes_on}
use Rattle.wf_inputs.specs.Inputs.{labels_kind, instance_most}
use Rattle.wf_inputs.specs.RunTold.{TellsEvents, goes_on as goes_on_with}
use Rattle.wf_inputs.specs.LabelsTold.{TellsEntries, RefusesLabels}
use Rattle.wf_inputs.proofs.OneRun.{events_accepted, events_goes_on}
use Rattle.wf_inputs.proofs.OneLabels.{one_entries, no_refusal_of_labels}
use Rattle.cmd_ask.specs.Answers.{IsAnswerOfRun}
use Rattle.wf_asking.specs.Queries.{QueriesStage}
use Rattle.cmd_ask.specs.Does.{AnswersRun, AnswersLabels}
use Rattle.wf_asking.proofs.OneQueries.{one_queries_stage}
use Rattle.cmd_ask.proofs.OneWord.{one_run_word}
use Rattle.cmd_ingest.specs.Ingested.{file_of}
use Rattle.outcome_laws.specs.Laws.{IsOneOf, IsViewedSafely, LabelsAnswerLaw}
use Rattle.outcome_laws.proofs.OlderFiles.{told_too, file_opens}
use Rattle.outcome_laws.proofs.LabelsTell.{labels_tell_law}

module _ (h : HeldGrammar) (u : View) (viewed : IsViewedSafely h u) (older : Grammar) (one_of : IsOneOf h older)
    (events labels queries : File) (e : List Event) (told : TellsEvents older instance_most (lines_in events) e) (file : IsTold labels_kind labels Holds (file_of older e)) where
  abbrev g : Grammar
  g = h.core

  taken : IsAccepted older instance_most e
  taken = events_accepted older instance_most (lines_in events) e told

  run : TellsEvents g instance_most (lines_in events) e
  run = told_too h u viewed older one_of (lines_in events) e told

  accepted : IsAccepted g instance_most e
  accepted = events_accepted g instance_most (lines_in events) e run

  abbrev entries : List Entry
  entries = entries_of g e

  -- the label file tells the entries of the run
  entries_told : TellsEntries h (file_of older e) entries
  entries_told = file_opens h u viewed e older one_of taken

  labels_told : TellsEntries h labels.bytes entries
  labels_told = subst (λ b. TellsEntries h b entries) file.tells entries_told

  -- a query has the same words over both
  words_alike : (first second word : List ℕ) → IsAnswerText g u entries first second word ↔ IsAnswerOfRun g u e first second word
  words_alike = labels_tell_law h u viewed older one_of e taken entries entries_told

  -- so QUERIES has the same answers
  by_labels : (d : End) (t : List ℕ) → QueriesStage (IsAnswerOfRun g u e) queries d t → QueriesStage (IsAnswerText g u entries) queries d t
  by_labels d t w = (w.0, answered_too (IsAnswerOfRun g u e) (IsAnswerText g u entries) (λ first second word. (words_alike first second word).1) (lines_in queries) w.0 t w.1, w.2)

  by_run : (d : End) (t : List ℕ) → QueriesStage (IsAnswerText g u entries) queries d t → QueriesStage (IsAnswerOfRun g u e) queries d t
  by_run d t w = (w.0, answered_too (IsAnswerText g u entries) (IsAnswerOfRun g u e) (λ first second word. (words_alike first second word).0) (lines_in queries) w.0 t w.1, w.2)

  -- EVENTS is taken, and QUERIES answered
  of_run : (d : End) (t : List ℕ) → AnswersRun g u events queries d t → QueriesStage (IsAnswerOfRun g u e) queries d t
  of_run = events_goes_on g instance_most (lines_in events) (λ r. []) (λ r. QueriesStage (IsAnswerOfRun g u r) queries) e run

  -- so it is of LABELS
  of_labels : (d : End) (t : List ℕ) → AnswersLabels h u labels queries d t → QueriesStage (IsAnswerText g u entries) queries d t
  of_labels = stage_goes_on labels_kind [] labels (TellsEntries h) (OfWhole (RefusesLabels h)) (λ es. QueriesStage (IsAnswerText g u es) queries) entries file.short file.whole
      (λ es w. one_entries h labels.bytes entries es labels_told w) (λ l x r. no_refusal_of_labels h labels.bytes entries l x labels_told r)

  -- what is answered over the events is answered over the labels, and back
  answers_alike : (d : End) (t : List ℕ) → AnswersRun g u events queries d t ↔ AnswersLabels h u labels queries d t
  answers_alike d t = (
    λ w. goes_on file.short file.whole entries labels_told (by_labels d t (of_run d t w)),
    λ w. goes_on_with e run (by_run d t (of_labels d t w)),
  )

  -- and there is one such answer
  pub answers_agree : (d c : End) (t s : List ℕ) → AnswersRun g u events queries d t → AnswersLabels h u labels queries c s → AreSame d c t s
  answers_agree d c t s p q = one_queries_stage (IsAnswerOfRun g u e) (one_run_word g u e viewed.proper viewed.composites accepted.0) queries d c t s (of_run d t p) (by_run c s (of_labels c s q))

pub labels_answer_law : LabelsAnswerLaw
labels_answer_law h u viewed older one_of events labels queries e told file =
    (answers_alike h u viewed older one_of events labels queries e told file, answers_agree h u viewed older one_of events labels queries e told file)
