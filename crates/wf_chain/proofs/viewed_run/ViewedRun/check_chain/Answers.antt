use Rattle.std.proofs.Common.{◌≡◌, ◌<◌, ◌∙◌, ◌↔◌, IsTrue, sym, subst, length, List, vec_len, arith}
use Rattle.std.proofs.lemmas.Bool.{eqb-false}
use Rattle.wf_model.specs.Lists.{IsIn}
use Rattle.wf_chain.specs.declared.chain.ChainStep.{ChainStep}
use Rattle.wf_chain.specs.Chains.{AreStepsTo, end_in}
use Rattle.wf_chain.proofs.ChainSteps.{chain_told}
use Rattle.wf_chain.proofs.viewed_run.ViewedRun.check_chain.Goals as goal

pub go_on-requires-clause-first : goal.go_on-requires-clause-first
go_on-requires-clause-first c = record { held = c.requires.first; visible = c.shows.ensures.0 c.if-not-shows.false }

pub go_on-requires-clause-steps : goal.go_on-requires-clause-steps
go_on-requires-clause-steps c = λ s h. c.requires.steps s (subst (IsIn s) c.deref.ensures.value h)

pub returns : goal.returns
returns c =
    let ch = c.args.c.now in
    let v = c.args.self.now in
    let not_none = eqb-false (vec_len ch.steps) 0 (sym c.is_empty.ensures ∙ c.if-is_empty.false) in
    let count : vec_len ch.steps ≡ length ch.steps.items = ch.steps.ok.0 in
    let some : 0 < length ch.steps.items = omega (arith, not_none) in
    let told : IsTrue c.go_on.result ↔ AreStepsTo v ch.first ch.steps.items (end_in v ch.first ch.steps.items) =
    subst (λ (l : List ChainStep). IsTrue c.go_on.result ↔ AreStepsTo v ch.first l (end_in v ch.first l)) c.deref.ensures.value c.go_on.ensures in (
      λ t. chain_told v ch.first ch.steps.items (end_in v ch.first ch.steps.items) (record { held = c.requires.first; visible = c.shows.ensures.0 c.if-not-shows.false }) some (told.0 t),
      λ h. told.1 h.steps_lead,
    )
