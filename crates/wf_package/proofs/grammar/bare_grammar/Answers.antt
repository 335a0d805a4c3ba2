use Rattle.std.proofs.Common.{◌≡◌, ◌<◌, ◌∙◌, length, ap, subst, sym, IfOk}
use Rattle.wf_model.specs.Lists.{IsIn}
use Rattle.wf_model.specs.WellFormed.{IsWellFormed}
use Rattle.wf_view.proofs.KnownViews.{held}
use Rattle.wf_package.proofs.BareGrammar.{shown_below, bare_read, bare_formed}
use Rattle.wf_package.proofs.grammar.bare_grammar.Goals as goal

pub bounds-places-start : goal.bounds-places-start
bounds-places-start c =
    subst (λ n. c.start.result.0 < n) (sym (ap length c.as_slice-places.ensures.value ∙ c.requires.module_each))
    (subst (λ n. n < length c.args.v.grammar.now.core.modules) (sym c.start.ensures.start) c.start.ensures.formed.start)

pub placed_modules-requires-clause-in_range : goal.placed_modules-requires-clause-in_range
placed_modules-requires-clause-in_range c = λ m h. shown_below _ _ _ _ c.requires c.start.ensures.formed m (subst (IsIn m) c.deref.ensures.value h)

pub placed_productions-requires-clause-in_range : goal.placed_productions-requires-clause-in_range
placed_productions-requires-clause-in_range c = λ p h. ((c.requires.seen.productions p).0 (subst (IsIn p) c.deref-2.ensures.value h)).0

pub of_lists-requires : goal.of_lists-requires
of_lists-requires c =
    let g = c.args.v.grammar.now.core in
    let v = c.args.v.view.now in
    subst IsWellFormed
    (sym (bare_read g v.core c.args.parts.now.modules c.args.parts.now.productions c.requires c.as_slice-places.result.now c.deref.result.now c.deref-2.result.now c.start.result.0
    c.in_ok-modules.modules.items c.in_ok-rules.rules.items c.new.result.items c.as_slice-places.ensures.value c.deref.ensures.value c.deref-2.ensures.value c.start.ensures.start c.in_ok-modules.ensures c.in_ok-rules.ensures c.new.ensures.items))
    (bare_formed g v.core c.args.parts.now.modules c.args.parts.now.productions c.requires c.start.ensures.formed (held g v c.args.v.held).is_view.expanded)

pub returns : goal.returns
returns c =
    let g = c.args.v.grammar.now.core in
    let v = c.args.v.view.now in
    subst (λ x. IfOk c.of_lists.result (λ h. h.core ≡ x))
    (bare_read g v.core c.args.parts.now.modules c.args.parts.now.productions c.requires c.as_slice-places.result.now c.deref.result.now c.deref-2.result.now c.start.result.0
    c.in_ok-modules.modules.items c.in_ok-rules.rules.items c.new.result.items c.as_slice-places.ensures.value c.deref.ensures.value c.deref-2.ensures.value c.start.ensures.start c.in_ok-modules.ensures c.in_ok-rules.ensures c.new.ensures.items)
    c.of_lists.ensures.core
