use Rattle.label_model.proofs.InstanceAddresses
use Rattle.label_model.proofs.runs.instance_law.Goals as goal

pub returns : goal.returns
returns c = InstanceAddresses.instance_law
