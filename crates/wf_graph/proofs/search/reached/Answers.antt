use Rattle.std.proofs.Common.{◌<◌, ◌≤◌, ◌∙◌, sym, subst, ap, arith, length, get_or}
use Rattle.wf_model.specs.Lists.{Walk}
use Rattle.wf_graph.specs.Graph.{HasEdge, nexts}
use Rattle.wf_graph.specs.Search.{IsSearch, IsBegun}
use Rattle.wf_graph.proofs.Searching.{queue_below, first_same, not_fewer, search_one, search_more, reached_marked, marked_reached}
use Rattle.wf_graph.proofs.search.reached.Goals as goal

pub loop-search-init : goal.loop-search-init
loop-search-init c =
    let graph = c.args.graph.now in
    let s = c.restart.new.self in
    let begun = subst (λ n. IsBegun n c.args.from s.marks.items s.queue.items s.done) c.in_ok-search.ensures.count c.in_ok-restart.ensures.begun in
    record {
      search = search_one (nexts graph) (length graph) c.args.from s.marks.items s.queue.items s.done begun;
      first = ap (λ l. get_or l 0 0) begun.queued;
      some = omega (arith, ap length begun.queued);
    }

pub go_on-requires-clause-vertex : goal.go_on-requires-clause-vertex
go_on-requires-clause-vertex c =
    let graph = c.args.graph.now in
    let s = c.loop-search.search in
    let left = subst (λ n. s.done < n) (c.len.ensures ∙ s.queue.ok.0) c.loop-search-test.true in
    queue_below (nexts graph) (length graph) s.marks.items s.queue.items s.done c.loop-search.invariant.search s.done left

pub go_on-requires-clause-in_range : goal.go_on-requires-clause-in_range
go_on-requires-clause-in_range c = λ w i.
    let s = c.loop-search.search in
    subst (λ n. w < n) (sym c.loop-search.invariant.search.count) (c.requires.in_range (get_or s.queue.items s.done 0) w i)

pub loop-search-preserved : goal.loop-search-preserved
loop-search-preserved c =
    let graph = c.args.graph.now in
    let n = length graph in
    let s = c.loop-search.search in
    let search = c.loop-search.invariant.search in
    let left = subst (λ z. s.done < z) (c.len.ensures ∙ s.queue.ok.0) c.loop-search-test.true in
    let list = nexts graph (get_or s.queue.items s.done 0) in
    let met = c.in_ok-go_on.ensures.all in
    let longer = not_fewer (nexts graph) n s.marks.items s.queue.items s.done search _ _ list met (λ w i. i) left in
    record {
      search = subst (IsSearch (nexts graph) n c.go_on.new.self.marks.items c.go_on.new.self.queue.items) (sym c.in_ok-go_on.ensures.done)
          (search_more (nexts graph) n s.marks.items s.queue.items s.done search _ _ list met (λ w i. i) left (λ w i. i));
      first = first_same (nexts graph) n s.marks.items s.queue.items s.done search _ _ list met (λ w i. i) left ∙ c.loop-search.invariant.first;
      some = let z = c.loop-search.invariant.some in omega arith;
    }

pub returns-clause-reached : goal.returns-clause-reached
returns-clause-reached c = λ v.
    let graph = c.args.graph.now in
    let n = length graph in
    let s = c.loop-search.search in
    let inv = c.loop-search.invariant in
    let all = subst (λ z. z ≤ s.done) (c.len.ensures ∙ s.queue.ok.0) c.loop-search-test.false in (
      λ e. subst (λ z. Walk (HasEdge graph) z v) inv.first (marked_reached (nexts graph) n s.marks.items s.queue.items s.done inv.search v e),
      λ w. reached_marked (nexts graph) n s.marks.items s.queue.items s.done inv.search inv.some all v (subst (λ z. Walk (HasEdge graph) z v) (sym inv.first) w),
    )
