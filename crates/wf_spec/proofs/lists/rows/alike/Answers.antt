use Rattle.wf_spec.proofs.Rows.{alike_from}
use Rattle.wf_spec.proofs.lists.rows.alike.Goals as goal

pub returns : goal.returns
returns c = alike_from c.args.m.now c.args.all c.in_ok-rows.rows.items c.inputs.result.now c.row_of-row.result c.inputs.ensures c.in_ok-rows.ensures c.row_of-row.ensures
