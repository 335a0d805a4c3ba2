use Rattle.wf_laws.proofs.Depends
use Rattle.wf_laws.proofs.items.items_law.Goals as goal

pub returns : goal.returns
returns c = Depends.items_law
