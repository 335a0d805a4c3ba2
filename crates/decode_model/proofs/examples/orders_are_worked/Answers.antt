use Rattle.decode_model.proofs.WorkedOrders
use Rattle.decode_model.proofs.examples.orders_are_worked.Goals as goal

pub returns : goal.returns
returns c = WorkedOrders.orders_are_worked
