use Rattle.wf_gen.proofs.GeneratedRuns
use Rattle.wf_gen.proofs.law.generated_length_law.Goals as goal

pub returns : goal.returns
returns c = GeneratedRuns.generated_length_law
