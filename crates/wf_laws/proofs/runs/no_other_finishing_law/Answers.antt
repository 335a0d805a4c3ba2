use Rattle.wf_model.proofs.Whole
use Rattle.wf_laws.proofs.runs.no_other_finishing_law.Goals as goal

pub returns : goal.returns
returns c = Whole.no_other_finishing
