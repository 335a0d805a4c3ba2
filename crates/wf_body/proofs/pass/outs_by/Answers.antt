use Rattle.std.proofs.Common.{◌∙◌, arith, length-set}
use Rattle.wf_body.proofs.Rowing.{one_out, outs_more}
use Rattle.wf_body.proofs.pass.outs_by.Goals as goal

pub loop-o-preserved : goal.loop-o-preserved
loop-o-preserved c =
    let room = c.loop-o.invariant.room in
    let test = c.loop-o-test.true in
    let few = c.requires.count in
    record {
      below = outs_more c.args.from c.args.k.0 c.loop-o.o _ c.args.ins.now c.args.rows.now c.loop-o.outs c.loop-o.invariant.below (omega arith)
          (one_out c.args.from c.args.k.0 c.loop-o.o 64 c.column.result c.union.result c.itself.result c.args.ins.now c.args.rows.now c.union.ensures.union c.column.ensures.pairs c.itself.ensures);
      room = length-set c.loop-o.outs c.loop-o.o _ ∙ room;
    }
