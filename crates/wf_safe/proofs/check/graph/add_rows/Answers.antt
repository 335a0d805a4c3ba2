use Rattle.std.proofs.Common.{◌∙◌, length}
use Rattle.wf_safe.proofs.BodyLinks.{matrix_step}
use Rattle.wf_safe.proofs.LinkGraphs.{completes_more}
use Rattle.wf_safe.proofs.check.graph.add_rows.Goals as goal

pub loop-i-preserved : goal.loop-i-preserved
loop-i-preserved c = record {
  count = c.in_ok-add_row.ensures.count ∙ c.loop-i.invariant.count;
  left = completes_more _ _ _ _ _ c.loop-i.graph.items c.add_row.new.graph.items (matrix_step c.args.k.0 c.args.rows.now c.args.outputs c.loop-i.i (length c.args.rows.now) c.loop-i-test.true) c.in_ok-add_row.ensures c.loop-i.invariant.left;
}
