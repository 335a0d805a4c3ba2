use Rattle.outcome_laws.proofs.SameInstances
use Rattle.outcome_laws.proofs.law.same_instances_law.Goals as goal

pub returns : goal.returns
returns c = SameInstances.same_instances_law
