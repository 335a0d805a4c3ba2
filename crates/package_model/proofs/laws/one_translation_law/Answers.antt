use Rattle.package_model.proofs.ReadOnce
use Rattle.package_model.proofs.laws.one_translation_law.Goals as goal

pub returns : goal.returns
returns c = ReadOnce.one_translation_law
