use Rattle.wf_gen.proofs.Worked
use Rattle.wf_gen.proofs.law.runs_are_worked.Goals as goal

pub returns : goal.returns
returns c = Worked.runs_are_worked
