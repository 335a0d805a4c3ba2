use Rattle.wf_laws.proofs.Splits
use Rattle.wf_laws.proofs.paths.splits_law.Goals as goal

pub returns : goal.returns
returns c = Splits.splits_law
