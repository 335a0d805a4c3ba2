use Rattle.outcome_laws.proofs.WordsTell
use Rattle.outcome_laws.proofs.law.words_tell_law.Goals as goal

pub returns : goal.returns
returns c = WordsTell.words_tell_law
