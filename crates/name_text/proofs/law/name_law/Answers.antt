use Rattle.name_text.proofs.Names.{name_law}
use Rattle.name_text.proofs.law.name_law.Goals as goal

pub returns : goal.returns
returns c = name_law
