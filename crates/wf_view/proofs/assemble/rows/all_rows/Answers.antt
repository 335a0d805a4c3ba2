use Rattle.wf_view.proofs.Pairing.{all_made}
use Rattle.wf_view.proofs.assemble.rows.all_rows.Goals as goal

pub returns : goal.returns
returns c = all_made c.args.one.now c.in_ok-rows.rows.items c.inputs.result.now c.outputs.result.now c.low_bits-row.result c.inputs.ensures c.outputs.ensures c.in_ok-rows.ensures c.low_bits-row.ensures
