use Rattle.outcome_laws.proofs.ReorderedAnswers
use Rattle.outcome_laws.proofs.law.reordered_answers_law.Goals as goal

pub returns : goal.returns
returns c = ReorderedAnswers.reordered_answers_law
