use Rattle.std.proofs.Common.{[]}
use Rattle.wf_stage.proofs.Ends.{begins_nothing}
use Rattle.wf_stage.proofs.Obeying.{obeys_wanting}
use Rattle.cmd_explain.proofs.RunVerified.{for_run}
use Rattle.cmd_explain.proofs.verify.verify_run.Goals as goal

pub returns-in_default : goal.returns-in_default
returns-in_default g c =
    record {
      obeys = obeys_wanting [] _ (λ f. begins_nothing _) _ _;
    }

pub returns : goal.returns
returns g c =
    record {
      obeys = for_run _ _ _ _ _ _ _ c.in-Ok.viewed c.in-Ok.ensures.viewed c.in-Ok.ensures.run c.verify_chain-ended.ensures.obeys;
    }
