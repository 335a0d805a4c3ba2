use Rattle.std.proofs.Common.{refl, sym, ◌∙◌, subst, true≢false}
use Rattle.wf_model.specs.Items.{IsVisible}
use Rattle.wf_chain.specs.ViewedRuns.{grammar_in, view_in, events_in}
use Rattle.wf_reason.proofs.Named.{item_is}
use Rattle.wf_reason.proofs.naming.visible_item.Goals as goal

pub returns-in_err-item-clause-none : goal.returns-in_err-item-clause-none
returns-in_err-item-clause-none c = λ g t there visible e. c.in_err-item.ensures.none refl t there e

pub returns-then-not-shows-clause-none : goal.returns-then-not-shows-clause-none
returns-then-not-shows-clause-none c = λ g t there visible e.
    let v = c.args.run.now in
    let is = item_is v c.run-run.ensures.safe c.run-run.ensures.table c.in_ok-item.item t c.in_ok-item.ensures.found there (e ∙ sym c.in_ok-item.ensures.named) in
    true≢false (sym (c.shows.ensures.1 (subst (IsVisible (grammar_in v) (view_in v) (grammar_in v).start (events_in v)) is visible)) ∙ c.if-not-shows.true)
