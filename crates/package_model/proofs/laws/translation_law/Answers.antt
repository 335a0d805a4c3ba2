use Rattle.package_model.proofs.Translations
use Rattle.package_model.proofs.laws.translation_law.Goals as goal

pub returns : goal.returns
returns c = Translations.translation_law
