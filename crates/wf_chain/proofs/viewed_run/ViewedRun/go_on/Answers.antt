use Rattle.std.proofs.Common.{refl}
use Rattle.wf_chain.proofs.ChainSteps.{next_in, next_on, all_gone}
use Rattle.wf_chain.proofs.viewed_run.ViewedRun.go_on.Goals as goal

pub check_step-requires-clause-step : goal.check_step-requires-clause-step
check_step-requires-clause-step c =
    c.requires.steps _ (next_in c.args.self.now c.args.first.now c.args.steps.now c.loop-step.at c.loop-step.step-index c.args.steps.now _ refl c.loop-step-test.true)

pub loop-step-preserved : goal.loop-step-preserved
loop-step-preserved c =
    let there = next_in c.args.self.now c.args.first.now c.args.steps.now c.loop-step.at c.loop-step.step-index c.args.steps.now _ refl c.loop-step-test.true in
    next_on c.args.self.now c.args.first.now c.args.steps.now c.loop-step.at c.loop-step.step-index c.args.steps.now _ refl c.loop-step-test.true c.loop-step.invariant c.in-Ok.ensures.right (c.requires.steps _ there)

pub returns : goal.returns
returns c = ((λ _. all_gone c.args.self.now c.args.first.now c.args.steps.now c.loop-step.at c.loop-step.step-index c.loop-step-test.false c.loop-step.invariant), (λ _. refl))
