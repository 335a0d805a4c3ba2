use Rattle.std.proofs.Common.{◌∙◌, sym, subst, arith}
use Rattle.wf_model.specs.Lists.{IsAt}
use Rattle.wf_model.proofs.Lists.{is_at, in_at, at_is, at_below}
use Rattle.wf_chain.specs.ItemGraphs.{no_item}
use Rattle.wf_chain.proofs.SameItems.{item_same}
use Rattle.wf_chain.proofs.explain.number_of.Goals as goal

pub returns-then-eq : goal.returns-then-eq
returns-then-eq c =
    subst (λ x. IsAt x c.loop-k.k c.args.items.now) (item_same _ c.args.item.now (sym c.eq.ensures ∙ c.if-eq.true)) (is_at c.loop-k.k c.args.items.now no_item c.loop-k-test.true)

pub unreachable-requires : goal.unreachable-requires
unreachable-requires c =
    let p = in_at c.args.item.now c.args.items.now c.requires.there in
    let low = at_below c.args.item.now p.0 c.args.items.now p.1 in
    let past = c.loop-k-test.false in
    c.loop-k.invariant p.0 (omega arith) (at_is c.args.item.now p.0 c.args.items.now no_item p.1)
