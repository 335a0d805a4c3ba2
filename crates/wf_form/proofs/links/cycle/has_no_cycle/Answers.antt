use Rattle.std.proofs.Common.{◌≡◌, ◌↔◌, ◌<◌, ℕ, Bool, List, Vec, true, false, refl, ap, sym, subst, ◌∙◌, length, get_or, map, arith, true≢false}
use Rattle.std.specs.declared.alloc.Global.{Global}
use Rattle.wf_model.specs.Lists.{some}
use Rattle.wf_model.specs.Meaning.{edge_of}
use Rattle.wf_graph.specs.Graph.{HasEdge, IsReached}
use Rattle.wf_form.proofs.Graphs.{leads_to, cycle_found, no_cycle_at, no_cycle_below}
use Rattle.wf_form.proofs.links.cycle.has_no_cycle.Goals as goal

pub reached-requires-clause-in_range : goal.reached-requires-clause-in_range
reached-requires-clause-in_range c = λ a b h.
    let e = c.deref.ensures.value in
    let j = (c.in_ok-graph.ensures.edges a b).0 (subst (λ (g : List (Vec ℕ Global)). HasEdge g a b) e h) in
    let low = subst (λ n. n < c.args.count) j.3 (c.requires.to j.0 j.1) in
    subst (λ n. b < n) (sym (ap length e ∙ c.in_ok-graph.ensures.count)) low

pub returns-then-leads_back : goal.returns-then-leads_back
returns-then-leads_back c =
    let edges = map edge_of c.args.edges.now in
    let g = c.in_ok-graph.graph.items in
    let k = c.loop-k.k in
    let reached = subst (λ (l : List (Vec ℕ Global)). (v : ℕ) → (get_or c.in_ok-marks.marks.items v false ≡ true) ↔ IsReached l k v) c.deref.ensures.value c.in_ok-marks.ensures.reached in
    let found = subst (λ (l : List Bool). some (leads_to k l) edges ≡ true) c.deref-in-loop-k.ensures.value (sym c.leads_back.ensures ∙ c.if-leads_back.true) in
    (λ t. absurd (true≢false (sym t)), λ a. absurd (cycle_found g edges k c.in_ok-marks.marks.items c.in_ok-graph.ensures.edges reached found a))

pub loop-k-preserved : goal.loop-k-preserved
loop-k-preserved c =
    let edges = map edge_of c.args.edges.now in
    let g = c.in_ok-graph.graph.items in
    let k = c.loop-k.k in
    let reached = subst (λ (l : List (Vec ℕ Global)). (v : ℕ) → (get_or c.in_ok-marks.marks.items v false ≡ true) ↔ IsReached l k v) c.deref.ensures.value c.in_ok-marks.ensures.reached in
    let found = subst (λ (l : List Bool). some (leads_to k l) edges ≡ false) c.deref-in-loop-k.ensures.value (sym c.leads_back.ensures ∙ c.if-leads_back.false) in
    no_cycle_below edges k c.loop-k.invariant (no_cycle_at g edges k c.in_ok-marks.marks.items c.in_ok-graph.ensures.edges reached found)

pub returns : goal.returns
returns c =
    let edges = map edge_of c.args.edges.now in (
      λ t a b j w.
          (let low = subst (λ n. n < c.args.count) j.3 (c.requires.to j.0 j.1) in
          let h = c.loop-k-test.false in
          let l : b < c.loop-k.k = omega arith in
          c.loop-k.invariant a b l j w),
      λ a. refl,
    )
