use Rattle.std.proofs.Common.{◌∙◌}
use Rattle.wf_recur.proofs.Opening.{place_written}
use Rattle.wf_recur.proofs.rounds.stand.Goals as goal

pub returns-in_err-push-clause-placed : goal.returns-in_err-push-clause-placed
returns-in_err-push-clause-placed c = place_written c.args.on.now c.args.m.0 _ _ (c.len-place.ensures ∙ c.args.round.now.ok.0)

pub returns-clause-placed : goal.returns-clause-placed
returns-clause-placed c = place_written c.args.on.now c.args.m.0 _ _ (c.len-place.ensures ∙ c.args.round.now.ok.0)
