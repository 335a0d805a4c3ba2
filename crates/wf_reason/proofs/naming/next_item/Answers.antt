use Rattle.std.proofs.Common.{refl, sym, ◌∙◌, subst, true≢false}
use Rattle.chain_model.specs.Chains.{IsStepFrom}
use Rattle.wf_flat.specs.Graph.{inst_at}
use Rattle.wf_chain.specs.ViewedRuns.{grammar_in, view_in, full_in, events_in, item_in}
use Rattle.wf_reason.proofs.Named.{item_is}
use Rattle.wf_reason.proofs.naming.next_item.Goals as goal

pub returns-in_err-item-clause-none : goal.returns-in_err-item-clause-none
returns-in_err-item-clause-none c = λ g t step e. c.in_err-item.ensures.none refl t step.there e

pub returns-then-not-leads_to-clause-none : goal.returns-then-not-leads_to-clause-none
returns-then-not-leads_to-clause-none c = λ g t step e.
    let v = c.args.run.now in
    let i = c.in_ok-item.item in
    let is = item_is v c.run-run.ensures.safe c.run-run.ensures.table i t c.in_ok-item.ensures.found step.there (e ∙ sym c.in_ok-item.ensures.named) in
    let led = (c.requires.consumes.onward i c.in_ok-item.ensures.found).0
    (subst (λ z. IsStepFrom (grammar_in v) (view_in v) (full_in v) (grammar_in v).start (events_in v) (item_in v c.args.first.now) (record { via = inst_at v.run.instances c.args.by.via; item = z })) is step) in
    true≢false (sym (c.leads_to.ensures.1 led) ∙ c.if-not-leads_to.true)

pub leads_to-requires : goal.leads_to-requires
leads_to-requires c = record { input = c.requires.consumes.unopened; item = c.in_ok-item.ensures.found }

pub returns-clause-visible : goal.returns-clause-visible
returns-clause-visible c = record { held = c.in_ok-item.ensures.found; visible = (c.leads_to.ensures.0 c.if-not-leads_to.false).visible }

pub returns-clause-named : goal.returns-clause-named
returns-clause-named c = c.in_ok-item.ensures.named

pub returns-clause-leads : goal.returns-clause-leads
returns-clause-leads c = (c.requires.consumes.onward c.in_ok-item.item c.in_ok-item.ensures.found).1 (c.leads_to.ensures.0 c.if-not-leads_to.false)
