use Rattle.wf_reason.proofs.OneText
use Rattle.wf_reason.proofs.laws.one_text_law.Goals as goal

pub returns : goal.returns
returns c = OneText.one_text_law
