use Rattle.verdict_model.proofs.WorkedVerdicts
use Rattle.verdict_model.proofs.examples.verdicts_are_worked.Goals as goal

pub returns : goal.returns
returns c = WorkedVerdicts.verdicts_are_worked
