use Rattle.std.proofs.Common.{ap, length, arith}
use Rattle.wf_flat.proofs.Naming.{counted}
use Rattle.wf_flat.proofs.module_rows.row_of.Goals as goal

pub overflow_cast-result : goal.overflow_cast-result
overflow_cast-result c =
    let r = counted c.args.g.now.core _ c.args.m.0 c.index-modules-m.result c.modules.ensures.formed c.modules.ensures.modules c.requires.in_range c.index-modules-m.is in
    let e = ap length c.inputs.ensures in
    let f = r.few_inputs in
    omega arith

pub overflow_cast-result-2 : goal.overflow_cast-result-2
overflow_cast-result-2 c =
    let r = counted c.args.g.now.core _ c.args.m.0 c.index-modules-m.result c.modules.ensures.formed c.modules.ensures.modules c.requires.in_range c.index-modules-m.is in
    let e = ap length c.outputs.ensures in
    let f = r.few_outputs in
    omega arith
