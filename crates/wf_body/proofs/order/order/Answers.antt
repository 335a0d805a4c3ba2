use Rattle.std.proofs.Common.{◌≡◌, length, sym, ap, ◌∙◌, subst, arith, length-append, ◌∷◌, [], ◌<◌}
use Rattle.std.proofs.lemmas.List.{length-map}
use Rattle.wf_body.specs.Order.{positions_of}
use Rattle.wf_body.proofs.Ordering.{IsSoFar, so_far_none, so_far_more, more_room, all_placed, count_is, falls, held_push}
use Rattle.wf_body.proofs.order.order.Goals as goal

pub loop-k-init : goal.loop-k-init
loop-k-init c = subst (λ xs. IsSoFar c.args.g.now.core c.args.p.0 0 (positions_of xs)) (sym c.new-order.ensures.items) (so_far_none c.args.g.now.core c.args.p.0)

pub loop-k-smaller : goal.loop-k-smaller
loop-k-smaller c =
    let count = count_is c.args.g.now.core c.args.p.0 c.positions-count.result.now c.production.result.now.core c.positions-count.ensures c.production.ensures.core in
    let next = c.in-Some.ensures in
    let room = more_room c.args.g.now.core c.args.p.0 c.feeders-feeders.result c.loop-k.placed c.in-Some.k.0 c.single-placed.result (positions_of c.loop-k.order.items) c.loop-k.invariant
    c.feeders-feeders.ensures next.1 (subst (λ n. c.in-Some.k.0 < n) count next.0) c.single-placed.ensures.columns in
    let more = ap length c.in_ok-push.ensures.items ∙ length-append c.loop-k.order.items (c.in-Some.k ∷ []) in
    let same : length (positions_of c.loop-k.order.items) ≡ length c.loop-k.order.items = length-map c.loop-k.order.items _ in
    falls (length c.positions-count.result.now) (length c.loop-k.order.items) (length c.push.new.self.items) (omega arith) (omega arith)

pub loop-k-preserved : goal.loop-k-preserved
loop-k-preserved c =
    let count = count_is c.args.g.now.core c.args.p.0 c.positions-count.result.now c.production.result.now.core c.positions-count.ensures c.production.ensures.core in
    let next = c.in-Some.ensures in
    held_push c.args.g.now.core c.args.p.0 _ c.loop-k.order.items c.push.new.self.items c.in-Some.k c.in_ok-push.ensures.items
    (so_far_more c.args.g.now.core c.args.p.0 c.feeders-feeders.result c.loop-k.placed c.in-Some.k.0 c.single-placed.result (positions_of c.loop-k.order.items) c.loop-k.invariant
    c.feeders-feeders.ensures next.1 (subst (λ n. c.in-Some.k.0 < n) count next.0) c.single-placed.ensures.columns)

pub returns : goal.returns
returns c =
    let count = count_is c.args.g.now.core c.args.p.0 c.positions-count.result.now c.production.result.now.core c.positions-count.ensures c.production.ensures.core in
    all_placed c.args.g.now.core c.args.p.0 c.feeders-feeders.result c.loop-k.placed (positions_of c.loop-k.order.items) (c.production.ensures.formed.bodies c.args.p.0 c.requires)
    c.feeders-feeders.ensures (λ k h. c.in_default.ensures k (subst (λ n. k < n) (sym count) h)) c.loop-k.invariant
