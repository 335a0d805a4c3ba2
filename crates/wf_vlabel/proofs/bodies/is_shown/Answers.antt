use Rattle.std.proofs.Common.{◌≡◌, ◌<◌, ◌∙◌, IsTrue, false, get_or, length, sym, ap, true≢false}
use Rattle.wf_model.specs.Grammar.{Production, head_of}
use Rattle.wf_model.specs.View.{expands}
use Rattle.wf_view.proofs.KnownViews.{held}
use Rattle.wf_vlabel.proofs.bodies.is_shown.Goals as goal

pub returns-then-seen : goal.returns-then-seen
returns-then-seen c =
    let g = c.args.s.linear.grammar.now.core in
    let v = c.args.s.view.now in
    let h = head_of g c.args.p.0 in
    let same : c.head-head.result.0 ≡ h = c.head-head.ensures ∙ ap (λ (p : Production). p.head) c.production.ensures.core in
    let low : h < length g.modules = c.production.ensures.formed.heads c.args.p.0 c.requires.production in
    let flag : IsTrue (get_or v.seen h false) = ap (λ m. get_or v.seen m false) (sym same) ∙ (sym c.seen.ensures ∙ c.if-seen.true) in (
      λ e. (((held g v c.args.s.held).seen h low).0 flag, ap (expands v.core) (sym same) ∙ (sym c.expanded.ensures ∙ e)),
      λ s. c.expanded.ensures ∙ (ap (expands v.core) same ∙ s.1),
    )

pub returns-else-seen : goal.returns-else-seen
returns-else-seen c =
    let g = c.args.s.linear.grammar.now.core in
    let v = c.args.s.view.now in
    let h = head_of g c.args.p.0 in
    let same : c.head-head.result.0 ≡ h = c.head-head.ensures ∙ ap (λ (p : Production). p.head) c.production.ensures.core in
    let low : h < length g.modules = c.production.ensures.formed.heads c.args.p.0 c.requires.production in (
      λ e. absurd (true≢false (sym e ∙ c.if-seen.false)),
      λ s. c.seen.ensures ∙ (ap (λ m. get_or v.seen m false) same ∙ ((held g v c.args.s.held).seen h low).1 s.0),
    )
