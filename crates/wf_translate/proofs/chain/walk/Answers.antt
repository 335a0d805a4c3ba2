use Rattle.std.proofs.Common.{sym, subst}
use Rattle.wf_model.specs.Steps.{step_of}
use Rattle.wf_model.specs.Linear.{IsStepOf}
use Rattle.wf_spec.specs.Held.{HeldGrammar}
use Rattle.wf_translate.specs.Chains.{steps_seen}
use Rattle.wf_translate.proofs.LoopFacts.{are_steps}
use Rattle.wf_translate.proofs.Walking.{walk_start}
use Rattle.wf_translate.proofs.ChainEnds.{walk_next}
use Rattle.wf_translate.proofs.chain.walk.Goals as goal
use Rattle.wf_translate.proofs.chain.walk.Goals.{In-Some}

-- the loop step is a step of its module
of_it : (c : In-Some) → IsStepOf c.grammar-g.result.now.core c.loop-step.k.0 (step_of c.in-Some.step)
of_it c = subst (λ (h : HeldGrammar). IsStepOf h.core c.loop-step.k.0 (step_of c.in-Some.step)) (sym c.grammar-g.ensures.grammar) (are_steps c.args.looped.now c.grammar-g.ensures.good c.loop-step.k.0 (step_of c.in-Some.step) c.in-Some.ensures.0)

pub loop-step-init : goal.loop-step-init
loop-step-init c = walk_start c.args.looped.now c.grammar-g.ensures.good c.args.m.0 c.args.count (steps_seen c.args.steps.now.items) c.requires.in_range c.requires.loops

pub tell_step-requires-clause-production : goal.tell_step-requires-clause-production
tell_step-requires-clause-production c = (of_it (goal.at.tell_step-requires-clause-production c).In-Some).in_range

pub tell_step-requires-clause-position : goal.tell_step-requires-clause-position
tell_step-requires-clause-position c = (of_it (goal.at.tell_step-requires-clause-position c).In-Some).position

pub loop-step-preserved : goal.loop-step-preserved
loop-step-preserved c =
    walk_next c.args.looped.now c.grammar-g.ensures.good c.grammar-g.result.now c.grammar-g.ensures.grammar c.args.m.0 c.args.count (steps_seen c.args.steps.now.items) (steps_seen c.loop-step.steps.items) (steps_seen c.tell_step.new.steps.items)
    c.loop-step.k.0 c.loop-step.left c.in_ok-next.next.0 (step_of c.in-Some.step) c.loop-step.invariant c.in-Some.ensures.0 c.in-Some.ensures.1 c.in-Some.ensures.2
    c.in_ok-next.ensures.target c.in_ok-next.ensures.in_range c.in_ok-next.ensures.told
