use Rattle.wf_safe.proofs.OneWitness
use Rattle.wf_safe.proofs.law.one_witness_law.Goals as goal

pub returns : goal.returns
returns c = OneWitness.one_witness_law
