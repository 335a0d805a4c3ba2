use Rattle.std.proofs.Common.{◌+◌, ◌∷◌, [], length, ap, ◌∙◌, length-append}
use Rattle.wf_lift.specs.LiftedRows.{AreLiftedRows}
use Rattle.wf_lift.proofs.Growing.{table_more}
use Rattle.wf_lift.proofs.table.all_rows.Goals as goal

pub loop-m-preserved : goal.loop-m-preserved
loop-m-preserved c = record {
  one_each = ap length c.in_ok-push.ensures.items ∙ (length-append c.loop-m.table.items (c.in_ok-rows.rows ∷ []) ∙ ap (λ n. n + 1) c.loop-m.invariant.one_each);
  lifted = table_more (AreLiftedRows c.args.sight.grammar.now.core c.args.sight.view.now.core c.args.automaton.now) c.loop-m.table.items c.push.new.self.items c.in_ok-rows.rows c.loop-m.m
      c.loop-m.invariant.one_each c.loop-m.invariant.lifted c.in_ok-rows.ensures c.in_ok-push.ensures.items;
}
