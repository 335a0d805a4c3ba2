use Rattle.wf_laws.proofs.Conditions
use Rattle.wf_laws.proofs.runs.conditions_law.Goals as goal

pub returns : goal.returns
returns c = Conditions.conditions_law
