use Rattle.wf_laws.proofs.OwnRun
use Rattle.wf_laws.proofs.runs.sub_run_law.Goals as goal

pub returns : goal.returns
returns c = OwnRun.sub_run_law
