use Rattle.std.proofs.Common.{◌+◌, ℕ, List, Vec, ap, sym, subst, ◌∙◌, length, length-append, ◌∷◌, []}
use Rattle.std.specs.declared.alloc.Global.{Global}
use Rattle.wf_graph.specs.Graph.{HasEdge}
use Rattle.wf_graph.proofs.Edges.{none_more}
use Rattle.wf_graph.proofs.making.no_edges.Goals as goal

pub loop-k-preserved : goal.loop-k-preserved
loop-k-preserved c =
    let e = c.in_ok-push.ensures.items in
    record {
      count = ap length e ∙ (length-append c.loop-k.graph.items (c.new.result ∷ []) ∙ ap (λ n. n + 1) c.loop-k.invariant.count);
      none = subst (λ (g : List (Vec ℕ Global)). (a b : ℕ) → HasEdge g a b → ⊥) (sym e) (none_more c.loop-k.graph.items c.new.result c.new.ensures.items c.loop-k.invariant.none);
    }
