use Rattle.wf_model.proofs.Open
use Rattle.wf_laws.proofs.items.visible_law.Goals as goal

pub returns : goal.returns
returns c = Open.visible_law
