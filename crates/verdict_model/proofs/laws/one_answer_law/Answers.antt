use Rattle.verdict_model.proofs.Answering
use Rattle.verdict_model.proofs.laws.one_answer_law.Goals as goal

pub returns : goal.returns
returns c = Answering.one_answer_law
