use Rattle.std.proofs.Common.{◌<◌, ◌+◌, ◌∙◌, [], ℕ, List, Vec, length, get_or, ap, sym, subst}
use Rattle.std.specs.Prelude.{Bool}
use Rattle.std.specs.declared.alloc.Global.{Global}
use Rattle.std.proofs.lemmas.List.{length_push, map_push}
use Rattle.wf_model.proofs.Going.{made_below}
use Rattle.wf_graph.specs.Graph.{HasEdge}
use Rattle.wf_recur.specs.Reaching.{IsRow, rows_in}
use Rattle.wf_recur.proofs.Reaching.{row_more}
use Rattle.wf_recur.proofs.reach.derived.Goals as goal

pub reached-requires-clause-in_range : goal.reached-requires-clause-in_range
reached-requires-clause-in_range c = λ a b h.
    let e = c.deref.ensures.value in
    let i = subst (λ (l : List (Vec ℕ Global)). HasEdge l a b) e h in
    subst (λ n. b < n) (sym (ap length e ∙ c.in_ok-graph.ensures.count)) (made_below c.args.g.now.core c.modules-m-end.ensures.formed a b ((c.in_ok-graph.ensures.edges a b).0 i))

pub loop-m-preserved : goal.loop-m-preserved
loop-m-preserved c =
    let g = c.args.g.now.core in
    let graph = c.deref.result.now in
    let e = c.deref.ensures.value in
    let before = rows_in c.loop-m.rows.items in
    let row = c.in_ok-row.row.items in
    let pushed = ap rows_in c.in_ok-push.ensures.items ∙ map_push (λ (v : Vec Bool Global). v.items) c.loop-m.rows.items c.in_ok-row.row in
    record {
      count = ap length pushed ∙ (length_push before row ∙ ap (λ n. n + 1) c.loop-m.invariant.count);
      each = subst (λ (l : List (List Bool)). (k : ℕ) → k < c.loop-m.m + 1 → IsRow g k (get_or l k [])) (sym pushed)
          (row_more g graph before c.loop-m.m row (ap length e ∙ c.in_ok-graph.ensures.count)
          (λ a b. (λ h. (c.in_ok-graph.ensures.edges a b).0 (subst (λ (l : List (Vec ℕ Global)). HasEdge l a b) e h), λ h. subst (λ (l : List (Vec ℕ Global)). HasEdge l a b) (sym e) ((c.in_ok-graph.ensures.edges a b).1 h)))
          c.in_ok-row.ensures.count c.in_ok-row.ensures.reached c.loop-m.invariant.count c.loop-m.invariant.each);
    }
