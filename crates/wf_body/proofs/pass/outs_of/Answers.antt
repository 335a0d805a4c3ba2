use Rattle.std.proofs.Common.{arith}
use Rattle.wf_model.proofs.Lists.{at_in}
use Rattle.wf_model.specs.Grammar.{body_of}
use Rattle.wf_body.proofs.Rowing.{few_rows, outs_whole}
use Rattle.wf_body.proofs.pass.outs_of.Goals as goal

pub rows_of-requires : goal.rows_of-requires
rows_of-requires c = (c.requires.rows c.standing-m.result.0 (at_in c.standing-m.result.0 c.args.k.0 (body_of c.args.g.now.core c.args.p.0) c.standing-m.ensures.stands)).within

pub outs_by-requires-clause-rows : goal.outs_by-requires-clause-rows
outs_by-requires-clause-rows c =
    let held = c.requires.rows c.standing-m.result.0 (at_in c.standing-m.result.0 c.args.k.0 (body_of c.args.g.now.core c.args.p.0) c.standing-m.ensures.stands) in
    few_rows c.args.g.now.core c.args.p.0 c.args.k.0 c.standing-m.result.0 c.args.deps.now c.rows_of.result.now c.standing-m.ensures.formed c.requires.production c.standing-m.ensures.stands held (c.rows_of.ensures held.rows held.held)

pub returns : goal.returns
returns c =
    let held = c.requires.rows c.standing-m.result.0 (at_in c.standing-m.result.0 c.args.k.0 (body_of c.args.g.now.core c.args.p.0) c.standing-m.ensures.stands) in
    outs_whole c.args.g.now.core c.args.p.0 c.args.k.0 c.standing-m.result.0 c.output_count.result c.args.from c.args.deps.now c.args.ins.now c.rows_of.result.now c.outs_by.result c.standing-m.ensures.stands held (c.rows_of.ensures held.rows held.held)
    (let e = c.output_count.ensures.count in omega arith) c.outs_by.ensures
