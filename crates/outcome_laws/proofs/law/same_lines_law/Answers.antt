use Rattle.outcome_laws.proofs.SameLines
use Rattle.outcome_laws.proofs.law.same_lines_law.Goals as goal

pub returns : goal.returns
returns c = SameLines.same_lines_law
