use Rattle.wf_translate.proofs.SomeTranslation.{some_translation}
use Rattle.wf_translate.proofs.laws.some_translation_law.Goals as goal

pub returns : goal.returns
returns c = some_translation
