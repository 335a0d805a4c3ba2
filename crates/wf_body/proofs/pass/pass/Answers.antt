use Rattle.std.proofs.Common.{◌∙◌, ℕ, List, length, get_or, sym, ap, subst}
use Rattle.wf_model.specs.Meaning.{pairs_of}
use Rattle.wf_model.specs.declared.numbers.PosNo.{PosNo}
use Rattle.wf_body.specs.Words.{AreInputs}
use Rattle.wf_body.proofs.Listing.{leading_read}
use Rattle.wf_body.proofs.Ordering.{count_is}
use Rattle.wf_body.proofs.Telling.{told_none, held_order_within, held_next, held_all}
use Rattle.wf_body.proofs.pass.pass.Goals as goal

abbrev no_position : PosNo
no_position = record { 0 = 0 }

pub loop-k-init : goal.loop-k-init
loop-k-init c =
    let count = count_is c.args.g.now.core c.args.p.0 c.positions-count.result.now c.production.result.now.core c.positions-count.ensures c.production.ensures.core in
    told_none c.args.g.now.core (pairs_of c.args.deps.now) c.args.p.0 c.args.from c.in_ok-ins.ins.items c.in_ok-outs.outs.items
    (sym c.in_ok-ins.ins.ok.0 ∙ (c.in_ok-ins.ensures.len ∙ count))
    (sym c.in_ok-outs.outs.ok.0 ∙ (c.in_ok-outs.ensures.len ∙ count))

pub index-requires : goal.index-requires
index-requires c =
    rw c.in_ok-leading.leading.ok.0 (rw c.in_ok-leading.ensures.count
    (held_order_within c.args.g.now.core c.args.p.0 c.loop-k.k-index c.deref-k-items.result.now c.in_ok-order.order.items no_position c.in_ok-order.ensures c.deref-k-items.ensures.value c.loop-k-test.true))

pub ins_of-row-requires-clause-leading : goal.ins_of-row-requires-clause-leading
ins_of-row-requires-clause-leading c =
    let within = held_order_within c.args.g.now.core c.args.p.0 c.loop-k.k-index c.deref-k-items.result.now c.in_ok-order.order.items no_position c.in_ok-order.ensures c.deref-k-items.ensures.value c.loop-k-test.true in
    leading_read c.args.g.now.core c.args.p.0 (get_or c.deref-k-items.result.now c.loop-k.k-index no_position).0 c.in_ok-leading.leading.items c.index.result.now c.deref.result.now
    (c.in_ok-leading.ensures.leading (get_or c.deref-k-items.result.now c.loop-k.k-index no_position).0)
    (rw c.in_ok-leading.ensures.count within) c.index.ensures c.deref.ensures.value

pub ins_of-row-requires-clause-outs : goal.ins_of-row-requires-clause-outs
ins_of-row-requires-clause-outs c = ap length c.deref-in-loop-k.ensures.value ∙ c.loop-k.invariant.as_many_outputs

pub outs_of-requires-clause-position : goal.outs_of-requires-clause-position
outs_of-requires-clause-position c = held_order_within c.args.g.now.core c.args.p.0 c.loop-k.k-index c.deref-k-items.result.now c.in_ok-order.order.items no_position c.in_ok-order.ensures c.deref-k-items.ensures.value c.loop-k-test.true

pub index_mut-requires : goal.index_mut-requires
index_mut-requires c =
    let within = held_order_within c.args.g.now.core c.args.p.0 c.loop-k.k-index c.deref-k-items.result.now c.in_ok-order.order.items no_position c.in_ok-order.ensures c.deref-k-items.ensures.value c.loop-k-test.true in
    rw c.loop-k.outs.ok.0 (rw c.loop-k.invariant.as_many_outputs within)

pub index_mut-requires-in-loop-k : goal.index_mut-requires-in-loop-k
index_mut-requires-in-loop-k c =
    let within = held_order_within c.args.g.now.core c.args.p.0 c.loop-k.k-index c.deref-k-items.result.now c.in_ok-order.order.items no_position c.in_ok-order.ensures c.deref-k-items.ensures.value c.loop-k-test.true in
    rw c.loop-k.ins.ok.0 (rw c.loop-k.invariant.as_many_inputs within)

pub loop-k-preserved : goal.loop-k-preserved
loop-k-preserved c =
    held_next c.args.g.now.core (pairs_of c.args.deps.now) c.args.p.0 c.loop-k.k-index no_position c.args.from c.deref-k-items.result.now c.in_ok-order.order.items c.loop-k.ins.items c.loop-k.outs.items c.ins_of-row.result c.outs_of.result
    (c.production.ensures.formed.bodies c.args.p.0 c.requires.production) c.in_ok-order.ensures c.deref-k-items.ensures.value c.loop-k-test.true c.loop-k.invariant
    (subst (λ (o : List (List ℕ)). AreInputs c.args.g.now.core c.args.p.0 c.args.from (get_or c.deref-k-items.result.now c.loop-k.k-index no_position).0 o c.ins_of-row.result) c.deref-in-loop-k.ensures.value c.ins_of-row.ensures)
    c.outs_of.ensures

pub returns : goal.returns
returns c =
    held_all c.args.g.now.core (pairs_of c.args.deps.now) c.args.p.0 c.loop-k.k-index c.args.from c.deref-k-items.result.now c.in_ok-order.order.items c.loop-k.ins.items c.loop-k.outs.items
    c.in_ok-order.ensures c.deref-k-items.ensures.value c.loop-k-test.false c.loop-k.invariant
