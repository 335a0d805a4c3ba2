use Rattle.outcome_laws.proofs.ToldRuns
use Rattle.outcome_laws.proofs.law.told_run_law.Goals as goal

pub returns : goal.returns
returns c = ToldRuns.told_run_law
