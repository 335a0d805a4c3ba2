use Rattle.outcome_laws.proofs.ReorderedFiles
use Rattle.outcome_laws.proofs.law.reordered_files_law.Goals as goal

pub returns : goal.returns
returns c = ReorderedFiles.reordered_files_law c.some_outcome_law.ensures
