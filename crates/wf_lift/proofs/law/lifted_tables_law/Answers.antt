use Rattle.wf_lift.proofs.SameTables
use Rattle.wf_lift.proofs.law.lifted_tables_law.Goals as goal

pub returns : goal.returns
returns c = SameTables.lifted_tables_law
