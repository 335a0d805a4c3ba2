use Rattle.std.proofs.Common.{sym}
use Rattle.std.proofs.lemmas.Result.{err_from_is_err_and}
use Rattle.wf_flat.specs.Table.{events_of}
use Rattle.wf_stage.proofs.Obeying.{obeys_passed}
use Rattle.wf_inputs.proofs.Taking.{events_stop, events_go, with_grammar}
use Rattle.cmd_ask.specs.Answers.{IsAnswerOfRun}
use Rattle.wf_asking.specs.Queries.{QueriesStage}
use Rattle.cmd_ask.specs.Does.{AnswersRun}
use Rattle.cmd_ask.proofs.trace.TraceWordsUnderView.obey_under.Goals as goal

pub returns-in_err-run-clause-obeys : goal.returns-in_err-run-clause-obeys
returns-in_err-run-clause-obeys g c =
    let u = c.args.v.now.view.core in
    obeys_passed _ _ _ _ _ _ c.from_residual.result c.in_err-run.field-0.0 (err_from_is_err_and c.from_residual.result c.from_residual.ensures.1)
    (with_grammar _ (λ f h. AnswersRun h.core u (f c.args.self.now.events.now) (f c.args.self.now.queries.now)) _ _ _ _ _ _ _ c.grammar.ensures.grammar
    (events_stop c.grammar.result.now.core _ _ _ _ _ c.in_err-run.ensures.reads))

pub returns-clause-obeys : goal.returns-clause-obeys
returns-clause-obeys g c =
    let u = c.args.v.now.view.core in
    with_grammar _ (λ f h. AnswersRun h.core u (f c.args.self.now.events.now) (f c.args.self.now.queries.now)) _ _ _ _ _ _ _ c.grammar.ensures.grammar
    (events_go c.grammar.result.now.core _ _ _ _ _ _ _ _ c.in_ok-run.ensures.reads
    (with_grammar _ (λ f h. QueriesStage (IsAnswerOfRun h.core u (events_of c.in_ok-run.run')) (f c.args.self.now.queries.now)) _ _ _ _ _ _ _ (sym c.grammar.ensures.grammar) c.answer_run.ensures.obeys))
