use Rattle.std.proofs.Common.{sym, subst, ◌∙◌, true≢false}
use Rattle.wf_chain.specs.ViewedRuns.{ViewedRunValue, IsViewedRun}
use Rattle.wf_chain.proofs.Stepping.{never, end_none, end_some, not_visible, not_produced, other_instance, pair_tells}
use Rattle.wf_chain.proofs.viewed_run.ViewedRun.leads_to.Goals as goal

pub returns-then-not-shows : goal.returns-then-not-shows
returns-then-not-shows c =
    let kept = subst (λ (w : ViewedRunValue). IsViewedRun w c.self.inside.flags.items) c.self.view_is c.self.invariant in
    never (not_visible c.args.self.now kept.run c.args.input c.requires.input c.args.item.now (λ s. true≢false (sym (c.shows.ensures.1 s) ∙ c.if-not-shows.true)))

pub produced_at-requires : goal.produced_at-requires
produced_at-requires c = record { held = c.requires.item; visible = c.shows.ensures.0 c.if-not-shows.false }

pub returns-in_default : goal.returns-in_default
returns-in_default c =
    let kept = subst (λ (w : ViewedRunValue). IsViewedRun w c.self.inside.flags.items) c.self.view_is c.self.invariant in
    never (not_produced c.args.self.now kept.run c.args.input c.requires.input c.args.item.now (end_none c.args.self.now c.args.item.now.from c.in_default.ensures.end))

pub returns-then-output-input : goal.returns-then-output-input
returns-then-output-input c =
    let kept = subst (λ (w : ViewedRunValue). IsViewedRun w c.self.inside.flags.items) c.self.view_is c.self.invariant in
    let e = end_some c.args.self.now c.args.item.now.from c.in-Some.output c.in-Some.ensures.end in
    never (other_instance c.args.self.now kept.run c.args.input c.requires.input c.args.item.now e.0 c.in-Some.output e.1 c.in-Some.ensures.unopened e.2 c.if-output-input.true)

pub returns : goal.returns
returns c =
    let kept = subst (λ (w : ViewedRunValue). IsViewedRun w c.self.inside.flags.items) c.self.view_is c.self.invariant in
    let e = end_some c.args.self.now c.args.item.now.from c.in-Some.output c.in-Some.ensures.end in
    pair_tells c.args.self.now kept.run c.args.input c.requires.input c.args.item.now e.0 c.in-Some.output e.1 c.in-Some.ensures.unopened e.2 c.if-output-input.false
    (c.shows.ensures.0 c.if-not-shows.false) c.joins.result c.joins.ensures
