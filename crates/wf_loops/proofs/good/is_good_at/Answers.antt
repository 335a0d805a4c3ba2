use Rattle.std.proofs.Common.{◌<◌, ◌∙◌, refl, sym, subst, true≢false}
use Rattle.wf_model.specs.Steps.{step_of}
use Rattle.wf_recur.specs.Cycles.{on_of}
use Rattle.wf_recur.proofs.OneTable.{cycled}
use Rattle.wf_loops.specs.Looped.{loop_in}
use Rattle.wf_loops.specs.Tables.{steps_in}
use Rattle.wf_loops.proofs.StepTables.{count_steps, some_at, none_in}
use Rattle.wf_loops.proofs.SameSteps.{same_gives, same_from}
use Rattle.wf_loops.proofs.GoodTargets.{off_cycle, in_table}
use Rattle.wf_loops.proofs.GoodSteps.{good_on_cycle, none_on_cycle, good_off_cycle, none_off_cycle}
use Rattle.wf_loops.proofs.good.is_good_at.Goals as goal

pub target-requires-clause-production : goal.target-requires-clause-production
target-requires-clause-production c =
    (c.requires.steps.each c.args.m.0 (step_of c.in-None-Some.step) (some_at c.args.steps.now c.args.m.0 c.in-None-Some.step c.in-None-Some.is-1)).in_range

pub target-requires-clause-position : goal.target-requires-clause-position
target-requires-clause-position c =
    (c.requires.steps.each c.args.m.0 (step_of c.in-None-Some.step) (some_at c.args.steps.now c.args.m.0 c.in-None-Some.step c.in-None-Some.is-1)).position

pub returns-in-Some-Some : goal.returns-in-Some-Some
returns-in-Some-Some c =
    let g = c.args.g.grammar.now.core in
    let table = cycled g c.modules-modules.ensures.formed c.args.g.linear c.args.g.cycles.now c.args.g.cycled in
    let step = c.in-Some-Some.step in
    let on = c.in-Some-Some.on in
    let told = good_on_cycle g (loop_in (steps_in c.args.steps.now)) c.args.m.0 c.args.g.linear (step_of step) (step_of on.step)
    (table.on_one c.args.m.0 (on_of on) (sym c.in-Some-Some.ensures)).step (some_at c.args.steps.now c.args.m.0 step c.in-Some-Some.is-1) in
    ((λ t. told.0 (same_gives step on.step (sym c.eq.ensures ∙ t))), (λ good. c.eq.ensures ∙ same_from step on.step (told.1 good)))

pub returns-in-Some-None : goal.returns-in-Some-None
returns-in-Some-None c =
    let g = c.args.g.grammar.now.core in
    let table = cycled g c.modules-modules.ensures.formed c.args.g.linear c.args.g.cycles.now c.args.g.cycled in
    let on = c.in-Some-None.field-0-0 in
    let continues = (table.on_one c.args.m.0 (on_of on) (sym c.in-Some-None.ensures)).step in
    let none = none_in c.args.steps.now c.args.m.0 c.in-Some-None.is-1 in
    ((λ t. absurd (true≢false (sym t))), (λ good. absurd (none_on_cycle g (loop_in (steps_in c.args.steps.now)) c.args.m.0 (step_of on.step) continues none good)))

pub returns-in-None-Some : goal.returns-in-None-Some
returns-in-None-Some c =
    let g = c.args.g.grammar.now.core in
    let table = cycled g c.modules-modules.ensures.formed c.args.g.linear c.args.g.cycles.now c.args.g.cycled in
    let step = c.in-None-Some.step in
    let off = off_cycle g c.args.g.cycles.now table c.args.m.0 c.requires.in_range c.on.result c.on.ensures c.in-None-Some.is-0 in
    let told = good_off_cycle g (loop_in (steps_in c.args.steps.now)) c.args.m.0 (step_of step) c.target.result.0 off
    (some_at c.args.steps.now c.args.m.0 step c.in-None-Some.is-1) c.target.ensures.target in
    ((λ t. told.0 (c.is_good_target.ensures.0 t)), (λ good. c.is_good_target.ensures.1 (told.1 good)))

pub returns-in-None-None : goal.returns-in-None-None
returns-in-None-None c =
    let g = c.args.g.grammar.now.core in
    let table = cycled g c.modules-modules.ensures.formed c.args.g.linear c.args.g.cycles.now c.args.g.cycled in
    let off = off_cycle g c.args.g.cycles.now table c.args.m.0 c.requires.in_range c.on.result c.on.ensures c.in-None-None.is-0 in
    let none = none_in c.args.steps.now c.args.m.0 c.in-None-None.is-1 in
    ((λ t. none_off_cycle g (loop_in (steps_in c.args.steps.now)) c.args.m.0 off none), (λ good. refl))

pub on-requires : goal.on-requires
on-requires c = in_table c.args.g.grammar.now.core c.args.g.cycles.now (cycled c.args.g.grammar.now.core c.modules-modules.ensures.formed c.args.g.linear c.args.g.cycles.now c.args.g.cycled) c.args.m.0 c.requires.in_range

pub bounds-steps-m : goal.bounds-steps-m
bounds-steps-m c = subst (λ n. c.args.m.0 < n) (sym c.requires.steps.one_each ∙ count_steps c.args.steps.now) c.requires.in_range

pub is_good_target-requires-clause-one_each : goal.is_good_target-requires-clause-one_each
is_good_target-requires-clause-one_each c = sym (count_steps c.args.steps.now) ∙ c.requires.steps.one_each

pub is_good_target-requires-clause-in_range : goal.is_good_target-requires-clause-in_range
is_good_target-requires-clause-in_range c = c.target.ensures.in_range
