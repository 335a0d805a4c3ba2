use Rattle.std.proofs.Common.{◌<◌, ◌+◌, List, None, length, ap, sym, subst, ◌∙◌, true≢false, arith}
use Rattle.std.proofs.lemmas.List.{length-replicate}
use Rattle.wf_model.specs.Grammar.{Module}
use Rattle.wf_safe.specs.Inducing.{AreShownBelow}
use Rattle.wf_safe.specs.Full.{AreFit}
use Rattle.wf_safe.proofs.SetRows.{fit_none}
use Rattle.wf_safe.proofs.Showing.{none_shown, not_shown, shown_more}
use Rattle.wf_view.proofs.KnownViews.{held}
use Rattle.wf_safe.proofs.safety.shown.shown_deps.Goals as goal
use Rattle.wf_safe.proofs.safety.shown.shown_deps.Goals.{then-seen+then-not-expanded+in_ok-set, else-seen, else-seen-via-then-seen+else-not-expanded, else-seen-via-else-seen}

pub loop-k-init : goal.loop-k-init
loop-k-init c =
    let same = ap (λ (ms : List Module). length ms) c.modules-count.ensures.modules in
    none_shown c.args.v.grammar.now.core c.args.v.view.now.core c.in_ok-deps.deps (ap length c.in_ok-deps.ensures ∙ (length-replicate (length c.modules-count.result.now) None ∙ same)) (subst (AreFit c.args.v.grammar.now.core) (sym c.in_ok-deps.ensures) (fit_none c.args.v.grammar.now.core (length c.modules-count.result.now)))

pub set-requires : goal.set-requires
set-requires c =
    let same = ap (λ (ms : List Module). length ms) c.modules-count.ensures.modules in
    let len = c.loop-k.invariant.one_each in
    let test = c.loop-k-test.true in
    omega arith

pub loop-k-preserved : goal.loop-k-preserved
loop-k-preserved c =
    let g = c.args.v.grammar.now.core in
    let v = c.args.v.view.now in
    let same = ap (λ (ms : List Module). length ms) c.modules-count.ensures.modules in
    let low : c.loop-k.k < length g.modules = omega arith in
    elim c.if-seen.branch [
      | then-seen+then-not-expanded+in_ok-set w ↦ subst (AreShownBelow g v.core (c.loop-k.k + 1)) (sym (w.deps-is ∙ w.in_ok-set.ensures.set))
          (shown_more g v c.loop-k.k c.loop-k.deps w.shown_rows.result.now (held c.args.v.grammar.now.core c.args.v.view.now c.args.v.held) low (sym w.expanded.ensures ∙ w.if-not-expanded.true) w.shown_rows.ensures c.loop-k.invariant)
      | else-seen w ↦ subst (AreShownBelow g v.core (c.loop-k.k + 1)) (sym w.deps-is) (not_shown g v.core c.loop-k.k c.loop-k.deps c.loop-k.invariant
          (elim w.else-seen.branch [
            | else-seen-via-then-seen+else-not-expanded y ↦ λ seen x. true≢false (sym y.if-not-expanded.false ∙ (y.expanded.ensures ∙ x))
            | else-seen-via-else-seen y ↦ λ seen x. true≢false (sym (((held c.args.v.grammar.now.core c.args.v.view.now c.args.v.held).seen c.loop-k.k low).1 seen) ∙ (sym c.seen.ensures ∙ y.if-seen.false))
          ]))
    ]
