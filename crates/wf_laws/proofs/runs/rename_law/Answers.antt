use Rattle.wf_laws.proofs.Rename
use Rattle.wf_laws.proofs.runs.rename_law.Goals as goal

pub returns : goal.returns
returns c = Rename.rename_law
