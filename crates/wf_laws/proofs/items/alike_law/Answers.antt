use Rattle.wf_laws.proofs.Alike
use Rattle.wf_laws.proofs.items.alike_law.Goals as goal

pub returns : goal.returns
returns c = Alike.alike_law
