use Rattle.outcome_laws.proofs.LabelsAnswer
use Rattle.outcome_laws.proofs.law.labels_answer_law.Goals as goal

pub returns : goal.returns
returns c = LabelsAnswer.labels_answer_law
