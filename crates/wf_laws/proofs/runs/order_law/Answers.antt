use Rattle.wf_laws.proofs.Order
use Rattle.wf_laws.proofs.runs.order_law.Goals as goal

pub returns : goal.returns
returns c = Order.order_law
