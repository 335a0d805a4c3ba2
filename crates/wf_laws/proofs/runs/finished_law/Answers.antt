use Rattle.wf_model.proofs.Idle
use Rattle.wf_laws.proofs.runs.finished_law.Goals as goal

pub returns : goal.returns
returns c = Idle.finishing_shows_the_same
