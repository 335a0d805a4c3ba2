use Rattle.wf_laws.proofs.Agreeing
use Rattle.wf_laws.proofs.addresses.agree_law.Goals as goal

pub returns : goal.returns
returns c = Agreeing.agree_law
