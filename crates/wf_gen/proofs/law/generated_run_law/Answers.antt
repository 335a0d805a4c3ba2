use Rattle.wf_gen.proofs.GeneratedRuns
use Rattle.wf_gen.proofs.law.generated_run_law.Goals as goal

pub returns : goal.returns
returns c = GeneratedRuns.generated_run_law
