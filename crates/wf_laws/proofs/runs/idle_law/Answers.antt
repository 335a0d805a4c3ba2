use Rattle.wf_model.proofs.Idle
use Rattle.wf_laws.proofs.runs.idle_law.Goals as goal

pub returns : goal.returns
returns c = Idle.idle_shows_the_same
