use Rattle.std.proofs.Common.{List, length, ap, sym, ◌∙◌, arith}
use Rattle.wf_model.specs.Grammar.{Module}
use Rattle.wf_view.proofs.KnownViews.{held}
use Rattle.wf_compare.proofs.CoarserViews.{not_alone, next_passed, is_first, none_alone}
use Rattle.wf_compare.proofs.coarser.first_expanded_alone.Goals as goal

pub loop-k-init : goal.loop-k-init
loop-k-init c = λ m l a. absurd (omega arith)

pub returns-then-is_expanded_alone : goal.returns-then-is_expanded_alone
returns-then-is_expanded_alone c = is_first c.args.coarse.view.now.core c.args.fine.now.core c.loop-k.k c.loop-k.invariant (sym c.is_expanded_alone.ensures ∙ c.if-is_expanded_alone.true)

pub loop-k-preserved : goal.loop-k-preserved
loop-k-preserved c =
    next_passed c.args.coarse.view.now.core c.args.fine.now.core c.loop-k.k c.loop-k.invariant (not_alone c.args.coarse.view.now.core c.args.fine.now.core c.loop-k.k (sym c.is_expanded_alone.ensures ∙ c.if-is_expanded_alone.false))

pub returns : goal.returns
returns c =
    let g = c.args.coarse.grammar.now.core in
    let v = c.args.coarse.view.now in
    let past = c.loop-k-test.false in
    let same = ap (λ (ms : List Module). length ms) c.modules-k-end.ensures.modules in
    none_alone g v.core c.args.fine.now.core c.loop-k.k c.modules-k-end.ensures.formed (held g v c.args.coarse.held).is_view (omega arith) c.loop-k.invariant
