use Rattle.wf_laws.proofs.Depends
use Rattle.wf_laws.proofs.items.depends_law.Goals as goal

pub returns : goal.returns
returns c = Depends.depends_law
