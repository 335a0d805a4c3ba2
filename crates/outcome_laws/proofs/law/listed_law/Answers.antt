use Rattle.outcome_laws.proofs.Listed.{listed_law}
use Rattle.outcome_laws.proofs.law.listed_law.Goals as goal

pub returns : goal.returns
returns c = listed_law
