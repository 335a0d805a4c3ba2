use Rattle.std.proofs.Common.{◌<◌, ◌↔◌, ◌∙◌, ℕ, List, Vec, length, ap, sym, subst}
use Rattle.std.proofs.lemmas.Result.{IfOk-weaker}
use Rattle.std.specs.declared.alloc.Global.{Global}
use Rattle.wf_graph.specs.Graph.{HasEdge}
use Rattle.wf_view.proofs.Opening.{Opens, opened_below, reached_seen}
use Rattle.wf_view.proofs.seen.seen_marks.Goals as goal
use Rattle.wf_view.proofs.seen.seen_marks.Goals.{After-from}

edges : (c : After-from) → (a b : ℕ) → HasEdge c.deref.result.now a b ↔ Opens c.args.g.now.core c.args.marks.now a b
edges c = subst (λ (l : List (Vec ℕ Global)). (a b : ℕ) → HasEdge l a b ↔ Opens c.args.g.now.core c.args.marks.now a b) (sym c.deref.ensures.value) c.in_ok-graph.ensures.edges

pub reached-requires-clause-in_range : goal.reached-requires-clause-in_range
reached-requires-clause-in_range c = λ a b h.
    subst (λ n. b < n) (sym (ap length c.deref.ensures.value ∙ c.in_ok-graph.ensures.count))
    (opened_below c.args.g.now.core c.start.ensures.formed c.args.marks.now a b ((edges c a b).0 h))

pub returns-clause-seen : goal.returns-clause-seen
returns-clause-seen c =
    let g = c.args.g.now.core in
    let read = (goal.at.returns-clause-seen c).After-from in
    IfOk-weaker c.reached.result _ _
    (λ seen h. λ u same m. (let r = reached_seen g c.args.marks.now c.deref.result.now c.from.result (c.from.ensures ∙ c.start.ensures.start) (edges read) u same m in
    ((λ e. r.0 ((h m).0 e)), λ s. (h m).1 (r.1 s)))) c.reached.ensures.reached
