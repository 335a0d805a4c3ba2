use Rattle.std.proofs.Common.{length, ap, arith}
use Rattle.wf_view.proofs.Pairing.{pair_put}
use Rattle.wf_view.proofs.assemble.rows.add_pair.Goals as goal

pub returns-clause-added : goal.returns-clause-added
returns-clause-added c =
    pair_put c.args.one.now c.args.pair.now c.args.rows.now c.inputs.result.now c.outputs.result.now c.bytes.result.now c.bytes-2.result.now c.port_place-input.result c.port_place-output.result
    c.inputs.ensures c.outputs.ensures c.bytes.ensures c.bytes-2.ensures c.port_place-input.ensures.place c.port_place-output.ensures.place
    (let l = c.port_place-input.ensures.within in let e = ap length c.inputs.ensures in let r = c.requires.rows in omega arith)
    (let l = c.port_place-output.ensures.within in let e = ap length c.outputs.ensures in let r = c.requires.few in omega arith)
