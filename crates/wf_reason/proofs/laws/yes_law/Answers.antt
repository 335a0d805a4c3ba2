use Rattle.wf_reason.proofs.OneText
use Rattle.wf_reason.proofs.laws.yes_law.Goals as goal

pub returns : goal.returns
returns c = OneText.yes_law
