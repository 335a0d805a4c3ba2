-- `trace` and `ask` over good files do all that they are to do.
use Rattle.std.proofs.Common.{ℕ, List, []}
use Rattle.wf_model.specs.View.{View}
use Rattle.wf_spec.specs.Held.{HeldGrammar}
use Rattle.wf_io.specs.Told.{File}
use Rattle.wf_io.specs.Lines.{lines_in}
use Rattle.wf_query.specs.Answers.{IsAnswerText}
use Rattle.wf_message.specs.Endings.{End}
use Rattle.wf_stage.specs.Stages.{OfWhole}
use Rattle.wf_stage.specs.Outcomes.{EndsInDone}
use Rattle.wf_stage.proofs.TwoStages.{stage_goes_on}
use Rattle.wf_inputs.specs.Inputs.{labels_kind, instance_most, ViewStage}
use Rattle.wf_inputs.specs.LabelsTold.{TellsEntries, RefusesLabels}
use Rattle.wf_inputs.specs.GoodFiles.{HasEntries}
use Rattle.wf_inputs.proofs.GoodFiles.{spec_goes_on, view_goes_on}
use Rattle.wf_inputs.proofs.OneLabels.{one_entries, no_refusal_of_labels}
use Rattle.wf_inputs.proofs.OneRun.{events_goes_on}
use Rattle.cmd_ask.specs.Answers.{IsAnswerOfRun}
use Rattle.cmd_ask.specs.Words.{Command, Trace, Ask}
use Rattle.wf_asking.specs.Queries.{QueriesStage}
use Rattle.wf_asking.proofs.GoodQueries.{queries_done}
use Rattle.cmd_ask.specs.Does.{AnswersView, AnswersRun, AnswersLabels, Does}
use Rattle.cmd_ask.specs.Family.{CanAnswer}

-- the stage of good LABELS goes on with their entries
labels_go_on : (h : HeldGrammar) (u : View) (labels queries : File) (has : HasEntries h labels) (e : End) (t : List ℕ) → AnswersLabels h u labels queries e t → QueriesStage (IsAnswerText h.core u has.0) queries e t
labels_go_on h u labels queries has =
    stage_goes_on labels_kind [] labels (TellsEntries h) (OfWhole (RefusesLabels h)) (λ es. QueriesStage (IsAnswerText h.core u es) queries) has.0 has.1.short has.1.whole (λ b told. one_entries h labels.bytes has.0 b has.1.tells told) (λ l x r. no_refusal_of_labels h labels.bytes has.0 l x has.1.tells r)

pub good_answering : (files : List ℕ → File) (c : Command) → CanAnswer files c → EndsInDone (Does files c)
good_answering files (Trace s v x q) good e t h =
    let g = good.0.core in
    let u = good.1.1.0 in
    queries_done (IsAnswerOfRun g u good.2.0) (files q) good.3 e t
    (events_goes_on g instance_most (lines_in (files x)) (λ es. []) (λ es. QueriesStage (IsAnswerOfRun g u es) (files q)) good.2.0 good.2.1 e t
    (view_goes_on g (files v) u good.1.1.1 (λ w. AnswersRun g w (files x) (files q)) e t
    (spec_goes_on (files s) good.0 good.1.0 (λ k. AnswersView k.core (files v) (files x) (files q)) e t h)))
good_answering files (Ask s v l q) good e t h =
    let g = good.0 in
    let u = good.1.1.0 in
    queries_done (IsAnswerText g.core u good.2.0) (files q) good.3 e t
    (labels_go_on g u (files l) (files q) good.2 e t
    (view_goes_on g.core (files v) u good.1.1.1 (λ w. AnswersLabels g w (files l) (files q)) e t
    (spec_goes_on (files s) g good.1.0 (λ k. ViewStage k.core (files v) (λ w. AnswersLabels k w (files l) (files q))) e t h)))
