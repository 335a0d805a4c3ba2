use Rattle.wf_safe.proofs.Disagreeing
use Rattle.wf_safe.proofs.law.witness_law.Goals as goal

pub returns : goal.returns
returns c = Disagreeing.witness_law
