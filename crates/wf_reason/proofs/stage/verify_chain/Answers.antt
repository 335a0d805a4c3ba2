use Rattle.std.proofs.lemmas.Result.{err_from_is_err_and}
use Rattle.wf_message.specs.Endings.{end_of, end_after}
use Rattle.wf_stage.proofs.Obeying.{obeys_passed}
use Rattle.wf_chain.specs.ViewedRuns.{grammar_in, view_in, events_in}
use Rattle.wf_reason.specs.Checked.{IsSaidOf, checked_text}
use Rattle.wf_reason.proofs.Verified.{chain_stops, chain_says}
use Rattle.wf_reason.proofs.stage.verify_chain.Goals as goal

pub returns-in_err-checked : goal.returns-in_err-checked
returns-in_err-checked g c =
    let v = c.args.run.now in
    record {
      obeys = obeys_passed _ _ _ _ _ _ c.from_residual.result c.in_err-checked.field-0.0 (err_from_is_err_and c.from_residual.result c.from_residual.ensures.1)
          (chain_stops (IsSaidOf (grammar_in v) (view_in v) (events_in v)) _ _ _ (end_of c.in_err-checked.field-0.0) c.in_err-checked.ensures.reads);
    }

pub returns : goal.returns
returns g c = record {
  obeys = chain_says c.args.run.now c.run-run.ensures.safe c.run-run.ensures.table _ _ _ _ (end_after c.put_checked.result) (checked_text c.in_ok-checked.checked) c.in_ok-checked.ensures.reads c.put_checked.ensures.writes;
}
