use Rattle.std.proofs.Common.{◌<◌, ◌∙◌, sym, subst, true≢false, arith}
use Rattle.wf_recur.proofs.OneTable.{cycled}
use Rattle.wf_loops.specs.Looped.{loop_in}
use Rattle.wf_loops.specs.Tables.{steps_in}
use Rattle.wf_loops.proofs.StepTables.{step_taken, step_free}
use Rattle.wf_loops.proofs.GoodTargets.{good_target, good_atomic, no_target, in_table}
use Rattle.wf_loops.proofs.good.is_good_target.Goals as goal

pub returns-then-is_some : goal.returns-then-is_some
returns-then-is_some c =
    let g = c.args.g.grammar.now.core in
    let table = cycled g c.modules-modules.ensures.formed c.args.g.linear c.args.g.cycles.now c.args.g.cycled in
    good_target g c.args.g.cycles.now table c.args.t.0 (loop_in (steps_in c.args.steps.now)) c.requires.in_range (c.is_composite.ensures.composite.0 c.if-not-is_composite.false)
    (step_taken c.args.steps.now c.args.t.0 (sym c.is_some.ensures ∙ c.if-is_some.true)) c.on.result c.on.ensures c.is_none.result c.is_none.ensures

pub is_composite-requires : goal.is_composite-requires
is_composite-requires c = c.requires.in_range

pub returns-then-not-is_composite : goal.returns-then-not-is_composite
returns-then-not-is_composite c =
    good_atomic c.args.g.grammar.now.core (loop_in (steps_in c.args.steps.now)) c.args.t.0 (λ x. true≢false (sym (c.is_composite.ensures.composite.1 x) ∙ c.if-not-is_composite.true))

pub bounds-steps-t : goal.bounds-steps-t
bounds-steps-t c = subst (λ n. c.args.t.0 < n) (sym c.requires.one_each) c.requires.in_range

pub on-requires : goal.on-requires
on-requires c = in_table c.args.g.grammar.now.core c.args.g.cycles.now (cycled c.args.g.grammar.now.core c.modules-modules.ensures.formed c.args.g.linear c.args.g.cycles.now c.args.g.cycled) c.args.t.0 c.requires.in_range

pub returns-else-is_some : goal.returns-else-is_some
returns-else-is_some c =
    no_target c.args.g.grammar.now.core (loop_in (steps_in c.args.steps.now)) c.args.t.0 (c.is_composite.ensures.composite.0 c.if-not-is_composite.false)
    (step_free c.args.steps.now c.args.t.0 (sym c.is_some.ensures ∙ c.if-is_some.false)) c.is_some.result c.if-is_some.false

pub overflow_cast-t : goal.overflow_cast-t
overflow_cast-t c = let few = c.modules-modules.ensures.formed.few_modules in let below = c.requires.in_range in omega arith

pub offset_bounds-steps-t : goal.offset_bounds-steps-t
offset_bounds-steps-t c = let few = c.modules-modules.ensures.formed.few_modules in let below = c.requires.in_range in omega arith
