use Rattle.std.proofs.Common.{◌<◌, ◌+◌, ◌∙◌, ◌∷◌, [], length, ap, arith}
use Rattle.std.proofs.lemmas.List.{length-append}
use Rattle.wf_graph.proofs.Rows.{rows_more}
use Rattle.wf_view.proofs.Opening.{Opens, opening_below}
use Rattle.wf_view.proofs.seen.opening.Goals as goal

pub loop-m-preserved : goal.loop-m-preserved
loop-m-preserved c = record {
  count = ap length c.in_ok-push.ensures.items ∙ (length-append c.loop-m.graph.items (c.in_ok-list.list ∷ []) ∙ ap (λ n. n + 1) c.loop-m.invariant.count);
  edges = rows_more (Opens c.args.g.now.core c.args.marks.now) c.loop-m.m c.loop-m.graph.items c.push.new.self.items c.in_ok-list.list c.loop-m.invariant.count c.loop-m.invariant.edges c.in_ok-list.ensures c.in_ok-push.ensures.items;
}

pub returns-clause-edges : goal.returns-clause-edges
returns-clause-edges c = λ a b. (
  λ i. ((c.loop-m.invariant.edges a b).0 i).1,
  λ d.
      let h = opening_below c.args.g.now.core c.modules-m-end.ensures.formed c.args.marks.now a b d in
      let n = ap length c.modules-m-end.ensures.modules in
      let l : a < c.loop-m.m = omega arith in
      (c.loop-m.invariant.edges a b).1 (l, d),
)
