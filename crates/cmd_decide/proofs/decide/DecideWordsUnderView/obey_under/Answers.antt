use Rattle.wf_stage.proofs.Obeying.{obeys_writing}
use Rattle.cmd_decide.proofs.decide.DecideWordsUnderView.obey_under.Goals as goal

pub returns-clause-obeys : goal.returns-clause-obeys
returns-clause-obeys g c = obeys_writing _ _ _ _ _ _ c.put_verdict.ensures.writes
