use Rattle.wf_package.proofs.SameText
use Rattle.wf_package.proofs.laws.same_text_law.Goals as goal

pub returns : goal.returns
returns c = SameText.same_text_law
