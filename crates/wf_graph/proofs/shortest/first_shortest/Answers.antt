use Rattle.std.proofs.Common.{◌<◌, ◌≤◌, ◌≡◌, ◌-◌, ◌++◌, ◌∙◌, true, false, true≢false, sym, subst, length, get_or, replicate}
use Rattle.std.proofs.lemmas.List.{get_or_read}
use Rattle.wf_graph.specs.Routes.{IsRoute}
use Rattle.wf_graph.specs.Trails.{Traced, IsTracked, IsFirstMet}
use Rattle.wf_graph.proofs.Trails.{met_along, traced_first}
use Rattle.wf_graph.proofs.Tracking.{tracked_more}
use Rattle.wf_graph.proofs.shortest.first_shortest.Goals as goal

pub returns-then-place-len : goal.returns-then-place-len
returns-then-place-len g c = λ ws some r.
    let row = g.G.Graph.leads c.args.graph.now in
    let s = c.loop-place.search in
    let q = s.queue.items in
    let inv = c.loop-place.invariant in
    let there = subst (λ n. c.args.to < n) (sym inv.count_is) c.requires.to in
    let e = sym (get_or_read s.marks.items c.args.to c.index.result.now there c.index.ensures false) ∙ c.loop-place-test.true in
    let all = subst (λ n. n ≤ s.done) (c.len.ensures ∙ s.queue.ok.0) c.if-place-len.true in
    let met = met_along row c.args.from q c.loop-place.came.items s.done inv.trail all c.args.to ws 0 inv.some some (subst (λ v. IsRoute row v ws c.args.to) (sym inv.trail.first) r) in
    true≢false (sym (subst (λ v. get_or s.marks.items v false ≡ true) met.3 (inv.queued met.0 met.1 met.2)) ∙ e)

pub go_on-requires-clause-in_range : goal.go_on-requires-clause-in_range
go_on-requires-clause-in_range g c = λ w i.
    let s = c.loop-place.search in
    subst (λ n. w < n) (sym c.loop-place.invariant.count_is) (c.requires.in_range (get_or s.queue.items s.done 0) w i)

pub loop-place-preserved : goal.loop-place-preserved
loop-place-preserved g c =
    let row = g.G.Graph.leads c.args.graph.now in
    let n = g.G.Graph.size c.args.graph.now in
    let s = c.loop-place.search in
    let came = c.loop-place.came.items in
    let left = subst (λ z. s.done < z) (c.len.ensures ∙ s.queue.ok.0) c.if-place-len.false in
    let count = c.len-in-loop-place.ensures ∙ c.go_on.new.self.queue.ok.0 in
    let noted = subst (λ z. c.note.new.came.items ≡ came ++ replicate (z - length came) s.done) count c.in_ok-note.ensures in
    subst (IsTracked row n c.args.from c.go_on.new.self.marks.items c.go_on.new.self.queue.items c.note.new.came.items) (sym c.in_ok-go_on.ensures.done)
    (tracked_more row n c.args.from s.marks.items s.queue.items came s.done c.loop-place.invariant left _ _ _ c.in_ok-go_on.ensures.all noted)

pub returns : goal.returns
returns g c =
    let row = g.G.Graph.leads c.args.graph.now in
    let s = c.loop-place.search in
    let inv = c.loop-place.invariant in
    let met = subst (λ q. IsFirstMet q c.args.to c.first_met-end.result) c.deref.ensures.value c.first_met-end.ensures in
    let way = subst (λ q. Traced q c.loop-place.came.items c.first_met-end.result c.in_ok-way.way.items) c.deref-2.ensures.value
    (subst (λ came. Traced c.deref-2.result.now came c.first_met-end.result c.in_ok-way.way.items) c.deref-3.ensures.value c.in_ok-way.ensures) in
    traced_first row c.args.from s.queue.items c.loop-place.came.items s.done inv.trail inv.within c.args.to c.first_met-end.result met c.in_ok-way.way.items way inv.some
