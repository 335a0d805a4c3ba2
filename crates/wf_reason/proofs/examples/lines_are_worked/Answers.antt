use Rattle.wf_reason.proofs.WorkedLines
use Rattle.wf_reason.proofs.examples.lines_are_worked.Goals as goal

pub returns : goal.returns
returns c = WorkedLines.lines_are_worked
