use Rattle.wf_stage.proofs.Obeying.{obeys_writing}
use Rattle.cmd_make.proofs.generate.GenWordsOverSpec.obey_over.Goals as goal

pub returns-clause-obeys : goal.returns-clause-obeys
returns-clause-obeys g c = obeys_writing _ _ _ _ _ _ c.put_generated.ensures.writes
