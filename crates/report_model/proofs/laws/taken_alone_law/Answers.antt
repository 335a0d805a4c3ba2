use Rattle.report_model.proofs.InOrder
use Rattle.report_model.proofs.laws.taken_alone_law.Goals as goal

pub returns : goal.returns
returns c = InOrder.taken_alone_law
