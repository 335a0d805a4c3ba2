use Rattle.std.proofs.Common.{sym}
use Rattle.std.proofs.lemmas.Result.{err_from_is_err_and}
use Rattle.wf_flat.specs.Table.{events_of}
use Rattle.wf_io.specs.Lines.{lines_in}
use Rattle.wf_stage.proofs.Obeying.{obeys_passed}
use Rattle.wf_inputs.proofs.Taking.{events_stop, events_go, with_grammar}
use Rattle.wf_reason.specs.HandedIn.{ChainStage}
use Rattle.wf_reason.specs.Checked.{IsSaidOf}
use Rattle.cmd_explain.specs.Verifying.{VerifiesRun}
use Rattle.cmd_explain.proofs.verify.VerifyWordsUnderView.obey_under.Goals as goal

pub returns-in_err-run : goal.returns-in_err-run
returns-in_err-run g c =
    let u = c.args.v.now.view.core in
    record {
      obeys = obeys_passed _ _ _ _ _ _ c.from_residual.result c.in_err-run.field-0.0 (err_from_is_err_and c.from_residual.result c.from_residual.ensures.1)
          (with_grammar _ (λ f h. VerifiesRun h.core u (f c.args.self.now.events.now) (f c.args.self.now.chain.now)) _ _ _ _ _ _ _ c.grammar.ensures.grammar
          (events_stop c.grammar.result.now.core _ _ _ _ _ c.in_err-run.ensures.reads));
      untouched = λ _ held. absurd held;
    }

pub returns : goal.returns
returns g c =
    let u = c.args.v.now.view.core in
    record {
      obeys = with_grammar _ (λ f h. VerifiesRun h.core u (f c.args.self.now.events.now) (f c.args.self.now.chain.now)) _ _ _ _ _ _ _ c.grammar.ensures.grammar
          (events_go c.grammar.result.now.core _ _ _ _ _ _ _ _ c.in_ok-run.ensures.reads
          (with_grammar _ (λ f h. ChainStage (lines_in (f c.args.self.now.chain.now)) (IsSaidOf h.core u (events_of c.in_ok-run.run'))) _ _ _ _ _ _ _ (sym c.grammar.ensures.grammar) c.verify_run-ended.ensures.obeys));
      untouched = λ _ held. absurd held;
    }
