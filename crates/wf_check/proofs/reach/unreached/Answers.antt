use Rattle.std.proofs.Common.{◌≡◌, ◌<◌, ◌↔◌, ◌∙◌, ℕ, Bool, List, Vec, true, false, length, get_or, ap, sym, subst}
use Rattle.std.specs.declared.alloc.Global.{Global}
use Rattle.wf_model.specs.Proper.{Derives}
use Rattle.wf_model.proofs.Going.{made_below}
use Rattle.wf_graph.specs.Graph.{HasEdge, IsReached}
use Rattle.wf_check.proofs.Least.{least_same}
use Rattle.wf_graph.proofs.Deriving.{derived_reached}
use Rattle.wf_check.proofs.reach.unreached.Goals as goal

pub reached-requires-clause-in_range : goal.reached-requires-clause-in_range
reached-requires-clause-in_range c = λ a b h.
    let e = c.deref.ensures.value in
    let i = subst (λ (l : List (Vec ℕ Global)). HasEdge l a b) e h in
    subst (λ n. b < n) (sym (ap length e ∙ c.in_ok-graph.ensures.count)) (made_below c.args.g.now.core c.start.ensures.formed a b ((c.in_ok-graph.ensures.edges a b).0 i))

pub returns : goal.returns
returns c =
    let g = c.args.g.now.core in
    let marks = c.deref-2.result.now in
    let told = subst (λ (l : List Bool). (v : ℕ) → (get_or l v false ≡ true) ↔ IsReached c.deref.result.now c.from.result v) (sym c.deref-2.ensures.value) c.in_ok-marks.ensures.reached in
    let told' = subst (λ (l : List (Vec ℕ Global)). (v : ℕ) → (get_or marks v false ≡ true) ↔ IsReached l c.from.result v) c.deref.ensures.value told in
    let told'' = subst (λ s. (v : ℕ) → (get_or marks v false ≡ true) ↔ IsReached c.in_ok-graph.graph.items s v) (c.from.ensures ∙ c.start.ensures.start) told' in
    least_same g (λ k. get_or marks k false ≡ true) (Derives g g.start) c.least_unmarked.result (λ k h. derived_reached g c.in_ok-graph.graph.items marks g.start c.in_ok-graph.ensures.edges told'' k) c.least_unmarked.ensures.least
