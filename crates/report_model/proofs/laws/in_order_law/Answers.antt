use Rattle.report_model.proofs.InOrder
use Rattle.report_model.proofs.laws.in_order_law.Goals as goal

pub returns : goal.returns
returns c = InOrder.in_order_law
