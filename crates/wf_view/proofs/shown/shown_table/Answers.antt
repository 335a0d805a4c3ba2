use Rattle.std.proofs.Common.{length, ap, arith}
use Rattle.wf_view.proofs.ShownTables.{shown_more}
use Rattle.wf_view.proofs.shown.shown_table.Goals as goal

pub loop-m-preserved : goal.loop-m-preserved
loop-m-preserved c =
    let count = ap length c.modules.ensures.modules in
    shown_more c.args.v.grammar.now.core c.args.v.view.now c.loop-m.m (omega arith) c.loop-m.rows c.loop-m.invariant c.show.new.rows c.in_ok-show.ensures
