use Rattle.std.proofs.Common.{sym, true≢false, length, ap, arith}
use Rattle.wf_safe.specs.Witness.{chosen_in, modules_in}
use Rattle.wf_safe.proofs.Needing.{none_next, some_next, none_left}
use Rattle.wf_safe.proofs.check.choice.are_for_all.Goals as goal

pub returns-in-None-clause-told : goal.returns-in-None-clause-told
returns-in-None-clause-told c =
    let len = ap length c.modules-m-end.ensures.modules in
    (λ t. absurd (true≢false (sym t)), λ e. absurd (none_next c.args.v.view.now (modules_in (chosen_in c.args.choice.now)) (modules_in (chosen_in c.loop-m.left.now)) c.loop-m.m (length c.args.v.grammar.now.core.modules) (omega arith) c.loop-m.invariant c.in-None.ensures e))

pub loop-m-preserved : goal.loop-m-preserved
loop-m-preserved c = some_next c.args.v.view.now (modules_in (chosen_in c.args.choice.now)) (modules_in (chosen_in c.loop-m.left.now)) (modules_in (chosen_in c.in-Some.rest.now)) c.loop-m.m c.loop-m.invariant c.in-Some.ensures

pub returns-clause-told : goal.returns-clause-told
returns-clause-told c =
    let len = ap length c.modules-m-end.ensures.modules in
    none_left c.args.v.view.now (modules_in (chosen_in c.args.choice.now)) c.loop-m.left.now c.loop-m.m (length c.args.v.grammar.now.core.modules) c.is_empty.result (omega arith) c.is_empty.ensures c.loop-m.invariant
