-- `words` over good files does all that it is to do.
use Rattle.std.proofs.Common.{ℕ, List, []}
use Rattle.wf_model.specs.View.{View}
use Rattle.wf_spec.specs.Held.{HeldGrammar}
use Rattle.wf_io.specs.Told.{File}
use Rattle.words_model.specs.Automata.{Automaton}
use Rattle.wf_words.specs.Answers.{IsWordByWords}
use Rattle.wf_message.specs.Endings.{End}
use Rattle.wf_stage.specs.Stages.{OfWhole}
use Rattle.wf_stage.specs.Outcomes.{EndsInDone}
use Rattle.wf_stage.proofs.TwoStages.{stage_goes_on}
use Rattle.wf_inputs.specs.Inputs.{labels_kind}
use Rattle.wf_inputs.specs.LabelsTold.{TellsEntries, RefusesLabels}
use Rattle.wf_inputs.specs.GoodFiles.{HasEntries}
use Rattle.wf_inputs.proofs.GoodFiles.{spec_goes_on, view_goes_on}
use Rattle.wf_inputs.proofs.OneLabels.{one_entries, no_refusal_of_labels}
use Rattle.wf_asking.specs.Queries.{QueriesStage}
use Rattle.wf_asking.proofs.GoodQueries.{queries_done}
use Rattle.cmd_words.specs.Words.{Command, Words}
use Rattle.cmd_words.specs.Does.{AnswersLabels, AnswersAuto, AnswersView, Does}
use Rattle.cmd_words.specs.Family.{CanAnswer}
use Rattle.cmd_words.proofs.OneAutoStage.{auto_goes_on}

-- the stage of good LABELS goes on with their entries
labels_go_on : (h : HeldGrammar) (u : View) (a : Automaton) (labels queries : File) (has : HasEntries h labels) (e : End) (t : List ℕ) → AnswersLabels h u a labels queries e t → QueriesStage (IsWordByWords h.core u a has.0) queries e t
labels_go_on h u a labels queries has =
    stage_goes_on labels_kind [] labels (TellsEntries h) (OfWhole (RefusesLabels h)) (λ es. QueriesStage (IsWordByWords h.core u a es) queries) has.0 has.1.short has.1.whole
    (λ b told. one_entries h labels.bytes has.0 b has.1.tells told) (λ l x r. no_refusal_of_labels h labels.bytes has.0 l x has.1.tells r)

pub good_answering : (files : List ℕ → File) (c : Command) → CanAnswer files c → EndsInDone (Does files c)
good_answering files (Words s v a l q) good e t h =
    let g = good.grammar in
    let u = good.under in
    let m = good.automaton in
    queries_done (IsWordByWords g.core u m good.has_entries.0) (files q) good.are_queries e t
    (labels_go_on g u m (files l) (files q) good.has_entries e t
    (auto_goes_on g.core u (files a) m good.has_automaton (λ b. AnswersLabels g u b (files l) (files q)) e t
    (view_goes_on g.core (files v) u good.has_view (λ w. AnswersAuto g w (files a) (files l) (files q)) e t
    (spec_goes_on (files s) g good.has_grammar (λ k. AnswersView k (files v) (files a) (files l) (files q)) e t h))))
