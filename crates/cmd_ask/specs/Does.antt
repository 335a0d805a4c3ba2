-- What `trace` and `ask` do.
use Rattle.std.specs.Prelude.{ℕ, List, []}
use Rattle.wf_model.specs.Grammar.{Grammar}
use Rattle.wf_model.specs.View.{View}
use Rattle.wf_spec.specs.Held.{HeldGrammar}
use Rattle.wf_io.specs.Told.{File}
use Rattle.wf_io.specs.Lines.{lines_in}
use Rattle.wf_query.specs.Answers.{IsAnswerText}
use Rattle.wf_message.specs.Endings.{End}
use Rattle.wf_stage.specs.Stages.{Stage, OfWhole}
use Rattle.wf_inputs.specs.Inputs.{labels_kind, instance_most, SpecStage, ViewStage}
use Rattle.wf_inputs.specs.RunTold.{EventsStage}
use Rattle.wf_inputs.specs.LabelsTold.{TellsEntries, RefusesLabels}
use Rattle.cmd_ask.specs.declared.command.Command.{Command as CommandHeld}
use Rattle.cmd_ask.specs.declared.command.Command.TheVariants.{Trace as TracesHeld, Ask as AsksHeld}
use Rattle.wf_asking.specs.Queries.{QueriesStage}
use Rattle.cmd_ask.specs.Answers.{IsAnswerOfRun}
use Rattle.cmd_ask.specs.Words.{Command, Trace, Ask}

-- EVENTS and QUERIES under a view
abbrev pub AnswersRun : Grammar → View → File → File → End → List ℕ → Type 0
AnswersRun g u events queries = EventsStage g instance_most (lines_in events) (λ es. []) (λ es. QueriesStage (IsAnswerOfRun g u es) queries)

-- VIEW, EVENTS and QUERIES of a grammar
abbrev pub AnswersView : Grammar → File → File → File → End → List ℕ → Type 0
AnswersView g view events queries = ViewStage g view (λ u. AnswersRun g u events queries)

-- `trace` over the four files
abbrev pub Traces : File → File → File → File → End → List ℕ → Type 0
Traces spec view events queries = SpecStage spec (λ h. AnswersView h.core view events queries)

-- LABELS and QUERIES under a view
abbrev pub AnswersLabels : HeldGrammar → View → File → File → End → List ℕ → Type 0
AnswersLabels h u labels queries = Stage labels_kind [] labels (TellsEntries h) (OfWhole (RefusesLabels h)) (λ entries. QueriesStage (IsAnswerText h.core u entries) queries)

-- `ask` over the four files
abbrev pub Asks : File → File → File → File → End → List ℕ → Type 0
Asks spec view labels queries = SpecStage spec (λ h. ViewStage h.core view (λ u. AnswersLabels h u labels queries))

-- the command that a value is
abbrev pub meant : CommandHeld → Command
meant (TracesHeld w) = Trace w.spec.now w.view.now w.events.now w.queries.now
meant (AsksHeld w) = Ask w.spec.now w.view.now w.labels.now w.queries.now

-- what a command does over files
abbrev pub Does : (List ℕ → File) → Command → End → List ℕ → Type 0
Does files (Trace s v e q) = Traces (files s) (files v) (files e) (files q)
Does files (Ask s v l q) = Asks (files s) (files v) (files l) (files q)
