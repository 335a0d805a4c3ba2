use Rattle.std.proofs.Common.{[]}
use Rattle.wf_view.proofs.Keeping.{kept_more}
use Rattle.wf_view.proofs.assemble.table.default_table.Goals as goal

pub loop-m-preserved : goal.loop-m-preserved
loop-m-preserved c = kept_more c.args.g.now.core c.args.marks.now [] c.loop-m.m c.loop-m.table.items c.push.new.self.items c.in_ok-rows.rows c.loop-m.invariant c.in_ok-rows.ensures c.in_ok-push.ensures.items
