use Rattle.std.proofs.Common.{sym}
use Rattle.std.proofs.lemmas.Result.{err_from_is_err_and}
use Rattle.wf_flat.specs.Table.{events_of}
use Rattle.wf_stage.proofs.Obeying.{obeys_passed, obeys_writing}
use Rattle.wf_inputs.proofs.Taking.{events_stop, events_go, with_grammar}
use Rattle.cmd_explain.specs.Reasons.{IsReason}
use Rattle.cmd_explain.specs.Does.{ExplainsRun}
use Rattle.cmd_explain.proofs.explain.ExplainWordsUnderView.obey_under.Goals as goal

pub returns-in_err-run : goal.returns-in_err-run
returns-in_err-run g c =
    let u = c.args.v.now.view.core in
    record {
      obeys = obeys_passed _ _ _ _ _ _ c.from_residual.result c.in_err-run.field-0.0 (err_from_is_err_and c.from_residual.result c.from_residual.ensures.1)
          (with_grammar _ (λ f h. ExplainsRun h.core u (f c.args.self.now.events.now) c.args.self.now.first.now c.args.self.now.second.now) _ _ _ _ _ _ _ c.grammar.ensures.grammar
          (events_stop c.grammar.result.now.core _ _ _ _ _ c.in_err-run.ensures.reads));
      untouched = λ _ held. absurd held;
    }

pub returns : goal.returns
returns g c =
    let u = c.args.v.now.view.core in
    record {
      obeys = with_grammar _ (λ f h. ExplainsRun h.core u (f c.args.self.now.events.now) c.args.self.now.first.now c.args.self.now.second.now) _ _ _ _ _ _ _ c.grammar.ensures.grammar
          (events_go c.grammar.result.now.core _ _ _ _ _ _ _ _ c.in_ok-run.ensures.reads
          (with_grammar _ (λ f h. IsReason h.core u (events_of c.in_ok-run.run') c.args.self.now.first.now c.args.self.now.second.now) _ _ _ _ _ _ _ (sym c.grammar.ensures.grammar) (obeys_writing _ _ _ _ _ _ c.explain_run-ended.ensures.writes)));
      untouched = λ _ held. absurd held;
    }
