use Rattle.std.proofs.Common.{[]}
use Rattle.wf_stage.proofs.Ends.{begins_nothing}
use Rattle.wf_stage.proofs.Obeying.{obeys_wanting}
use Rattle.cmd_ask.proofs.RunAnswered.{for_run}
use Rattle.cmd_ask.proofs.trace.answer_run.Goals as goal

pub returns-in_default : goal.returns-in_default
returns-in_default g c =
    record {
      obeys = obeys_wanting [] _ (λ f. begins_nothing _) _ _;
    }

pub returns : goal.returns
returns g c =
    record {
      obeys = for_run _ _ _ _ _ _ _ c.in-Ok.p c.in-Ok.ensures.viewed c.in-Ok.ensures.run c.answer_prepared.ensures.obeys;
    }
