-- `trace` and `ask` have one outcome at most.
use Rattle.std.proofs.Common.{ℕ, List, []}
use Rattle.wf_io.specs.Told.{File}
use Rattle.wf_io.specs.Lines.{lines_in}
use Rattle.wf_query.specs.Answers.{IsAnswerText}
use Rattle.wf_query.proofs.Entries.{one_word}
use Rattle.wf_stage.specs.Stages.{OfWhole}
use Rattle.wf_stage.specs.Outcomes.{HasOneOutcome}
use Rattle.wf_stage.proofs.TwoStages.{same_outcome}
use Rattle.wf_inputs.specs.Inputs.{labels_kind, instance_most}
use Rattle.wf_inputs.specs.LabelsTold.{TellsEntries, RefusesLabels}
use Rattle.wf_inputs.proofs.ToldGrammars.{told_formed, told_proper}
use Rattle.wf_inputs.proofs.OneRun.{one_events, events_accepted}
use Rattle.wf_inputs.proofs.OneLabels.{one_entries, one_refusal_of_labels, no_refusal_of_labels, told_differ}
use Rattle.wf_inputs.proofs.OneStages.{one_spec_stage, one_view_stage}
use Rattle.wf_inputs.proofs.ViewComposites.{told_composites}
use Rattle.wf_asking.proofs.OneQueries.{one_queries_stage}
use Rattle.cmd_ask.specs.Answers.{IsAnswerOfRun}
use Rattle.cmd_ask.specs.Words.{Command, Trace, Ask}
use Rattle.cmd_ask.specs.Does.{Traces, Asks, Does}
use Rattle.cmd_ask.proofs.OneWord.{one_run_word}

one_trace : (spec view events queries : File) → HasOneOutcome (Traces spec view events queries)
one_trace spec view events queries =
    one_spec_stage spec _ (λ h p.
    one_view_stage spec.bytes h p view _ (λ u q.
    one_events h.core instance_most (lines_in events) (λ r. []) _ (λ r told.
    one_queries_stage (IsAnswerOfRun h.core u r) (one_run_word h.core u r (told_proper spec.bytes h p) (told_composites h.core (told_formed spec.bytes h p) view.bytes u q) (events_accepted h.core instance_most (lines_in events) r told).0) queries)))

one_ask : (spec view labels queries : File) → HasOneOutcome (Asks spec view labels queries)
one_ask spec view labels queries =
    one_spec_stage spec _ (λ h p.
    one_view_stage spec.bytes h p view _ (λ u q.
    same_outcome labels_kind [] labels (TellsEntries h) (OfWhole (RefusesLabels h)) _ _ (one_entries h labels.bytes) (one_refusal_of_labels h labels.bytes) (no_refusal_of_labels h labels.bytes) (λ es told.
    one_queries_stage (IsAnswerText h.core u es) (one_word h.core u es (told_differ h labels.bytes es told)) queries)))

pub one_answering : (files : List ℕ → File) (c : Command) → HasOneOutcome (Does files c)
one_answering files (Trace a b c q) = one_trace (files a) (files b) (files c) (files q)
one_answering files (Ask a b c q) = one_ask (files a) (files b) (files c) (files q)
