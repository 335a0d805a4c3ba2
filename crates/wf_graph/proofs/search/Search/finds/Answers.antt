use Rattle.std.proofs.Common.{◌<◌, ◌≤◌, ◌∙◌, false, true≢false, sym, subst, arith, get_or}
use Rattle.std.proofs.lemmas.List.{get_or_read}
use Rattle.wf_model.specs.Lists.{Walk}
use Rattle.wf_graph.specs.Graph.{HasStep}
use Rattle.wf_graph.specs.Search.{IsSearch}
use Rattle.wf_graph.proofs.Searching.{queue_below, first_same, not_fewer, search_part, search_more, reached_marked, part_in}
use Rattle.wf_graph.proofs.search.Search.finds.Goals as goal

pub returns-then-self-len-clause-finds : goal.returns-then-self-len-clause-finds
returns-then-self-len-clause-finds g c =
    let row = g.G.Graph.leads c.args.graph.now in
    let s = c.loop-self.self in
    let inv = c.loop-self.invariant in
    let there = subst (λ n. c.args.to < n) (sym inv.search.count) c.requires.to in
    let e = sym (get_or_read s.marks.items c.args.to c.index.result.now there c.index.ensures false) ∙ c.loop-self-test.true in
    let all = subst (λ n. n ≤ s.done) (c.len.ensures ∙ s.queue.ok.0) c.if-self-len.true in
    let marked = λ (w : Walk (HasStep row) (get_or c.args.self.now.queue.items 0 0) c.args.to).
    reached_marked row (g.G.Graph.size c.args.graph.now) s.marks.items s.queue.items s.done inv.search inv.some all c.args.to (subst (λ z. Walk (HasStep row) z c.args.to) (sym inv.first) w) in
    (λ t. absurd (true≢false (sym t)), λ w. absurd (true≢false (sym (marked w) ∙ e)))

pub go_on-requires-clause-vertex : goal.go_on-requires-clause-vertex
go_on-requires-clause-vertex g c =
    let s = c.loop-self.self in
    let left = subst (λ n. s.done < n) (c.len.ensures ∙ s.queue.ok.0) c.if-self-len.false in
    queue_below (g.G.Graph.leads c.args.graph.now) (g.G.Graph.size c.args.graph.now) s.marks.items s.queue.items s.done c.loop-self.invariant.search s.done left

pub go_on-requires-clause-in_range : goal.go_on-requires-clause-in_range
go_on-requires-clause-in_range g c = λ w i.
    let s = c.loop-self.self in
    subst (λ n. w < n) (sym c.loop-self.invariant.search.count) (c.requires.in_range (get_or s.queue.items s.done 0) w i)

pub returns-in_err-go_on-clause-search : goal.returns-in_err-go_on-clause-search
returns-in_err-go_on-clause-search g c =
    let row = g.G.Graph.leads c.args.graph.now in
    let n = g.G.Graph.size c.args.graph.now in
    let s = c.loop-self.self in
    let left = subst (λ z. s.done < z) (c.len.ensures ∙ s.queue.ok.0) c.if-self-len.false in
    let part = c.go_on.ensures.some in
    subst (IsSearch row n c.go_on.new.self.marks.items c.go_on.new.self.queue.items) (sym c.in_err-go_on.ensures.not_done)
    (search_part row n s.marks.items s.queue.items s.done c.loop-self.invariant.search _ _ part.1.begin part.1.met (part_in part) left)

pub loop-self-preserved : goal.loop-self-preserved
loop-self-preserved g c =
    let row = g.G.Graph.leads c.args.graph.now in
    let n = g.G.Graph.size c.args.graph.now in
    let s = c.loop-self.self in
    let search = c.loop-self.invariant.search in
    let left = subst (λ z. s.done < z) (c.len.ensures ∙ s.queue.ok.0) c.if-self-len.false in
    let list = row (get_or s.queue.items s.done 0) in
    let met = c.in_ok-go_on.ensures.all in
    let longer = not_fewer row n s.marks.items s.queue.items s.done search _ _ list met (λ w i. i) left in
    record {
      search = subst (IsSearch row n c.go_on.new.self.marks.items c.go_on.new.self.queue.items) (sym c.in_ok-go_on.ensures.done)
          (search_more row n s.marks.items s.queue.items s.done search _ _ list met (λ w i. i) left (λ w i. i));
      first = first_same row n s.marks.items s.queue.items s.done search _ _ list met (λ w i. i) left ∙ c.loop-self.invariant.first;
      some = let z = c.loop-self.invariant.some in omega arith;
    }
