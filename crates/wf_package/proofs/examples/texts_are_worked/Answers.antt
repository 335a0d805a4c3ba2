use Rattle.wf_package.proofs.WorkedTexts
use Rattle.wf_package.proofs.examples.texts_are_worked.Goals as goal

pub returns : goal.returns
returns c = WorkedTexts.texts_are_worked
