-- `trace` and `ask` have an outcome.
use Rattle.std.proofs.Common.{ℕ, List, []}
use Rattle.wf_io.specs.Told.{File}
use Rattle.wf_io.specs.Lines.{lines_in}
use Rattle.wf_query.specs.Answers.{IsAnswerText}
use Rattle.wf_query.proofs.SomeWord.{some_word}
use Rattle.wf_stage.specs.Outcomes.{HasOutcome}
use Rattle.wf_inputs.specs.Inputs.{instance_most}
use Rattle.wf_inputs.proofs.SomeInputs.{some_spec_stage, some_view_stage, some_labels_stage, told_labels}
use Rattle.wf_inputs.proofs.SomeRun.{some_events}
use Rattle.wf_inputs.proofs.OneRun.{events_accepted}
use Rattle.wf_inputs.proofs.ToldGrammars.{told_formed, told_proper}
use Rattle.wf_inputs.proofs.ViewComposites.{told_composites}
use Rattle.cmd_ask.specs.Answers.{IsAnswerOfRun}
use Rattle.cmd_ask.specs.Words.{Command, Trace, Ask}
use Rattle.wf_asking.proofs.SomeQueries.{some_queries_stage}
use Rattle.cmd_ask.specs.Does.{Traces, Asks, Does}
use Rattle.cmd_ask.proofs.SomeWord.{some_run_word}

some_trace : (spec view events queries : File) → HasOutcome (Traces spec view events queries)
some_trace spec view events queries =
    some_spec_stage spec _ (λ h p.
    some_view_stage spec.bytes h p view _ (λ u q.
    some_events h.core instance_most (lines_in events) (λ r. []) _ (λ r told.
    some_queries_stage (IsAnswerOfRun h.core u r) (some_run_word h.core u (told_formed spec.bytes h p) (told_proper spec.bytes h p) (told_composites h.core (told_formed spec.bytes h p) view.bytes u q) q.safe r (events_accepted h.core instance_most (lines_in events) r told).0) queries)))

some_ask : (spec view labels queries : File) → HasOutcome (Asks spec view labels queries)
some_ask spec view labels queries =
    some_spec_stage spec _ (λ h p.
    some_view_stage spec.bytes h p view _ (λ u q.
    some_labels_stage h labels _ (λ es told.
    some_queries_stage (IsAnswerText h.core u es) (some_word h.core u (told_formed spec.bytes h p) (told_proper spec.bytes h p) (told_composites h.core (told_formed spec.bytes h p) view.bytes u q) q.safe es (told_labels h labels.bytes es told)) queries)))

pub some_answering : (files : List ℕ → File) (c : Command) → HasOutcome (Does files c)
some_answering files (Trace a b c q) = some_trace (files a) (files b) (files c) (files q)
some_answering files (Ask a b c q) = some_ask (files a) (files b) (files c) (files q)
