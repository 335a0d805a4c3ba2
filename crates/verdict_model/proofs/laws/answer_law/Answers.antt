use Rattle.verdict_model.proofs.Answering
use Rattle.verdict_model.proofs.laws.answer_law.Goals as goal

pub returns : goal.returns
returns c = Answering.answer_law
