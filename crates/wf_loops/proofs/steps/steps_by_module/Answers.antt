use Rattle.std.proofs.Common.{◌≡◌, ◌+◌, ◌∙◌, take, drop, length, sym, ap, subst, arith, rules}
use Rattle.std.proofs.lemmas.List.{take_at}
use Rattle.wf_loops.specs.Tables.{steps_in}
use Rattle.wf_loops.specs.Entries.{AreStepsByEntries, IsEntered, IsSecondEntry}
use Rattle.wf_loops.proofs.StepTables.{none_replicated, count_replicated}
use Rattle.wf_loops.proofs.Entering.{none_entered, one_more, second_refuted, all_entered}
use Rattle.wf_loops.proofs.steps.steps_by_module.Goals as goal

pub loop-entry-init : goal.loop-entry-init
loop-entry-init c =
    let steps = c.in_ok-steps.steps.items in
    let none = c.in_ok-steps.ensures.items_if_clones_equal (λ y e. search rules) in
    none_entered c.args.g.now.core (steps_in steps) (count_replicated steps _ none ∙ ap length c.modules-modules.ensures.modules) (none_replicated steps _ none)

pub loop-entry-preserved : goal.loop-entry-preserved
loop-entry-preserved c =
    let g = c.args.g.now.core in
    let old = c.loop-entry.steps in
    let new = c.enter.new.steps in
    let long : length new ≡ length old.items = c.enter.auto.steps ∙ ap length c.deref_mut.ensures.value in
    let entered = subst (λ l. IsEntered g c.entry-item.result (steps_in l) (steps_in new)) c.deref_mut.ensures.value (c.enter.ensures.entered c.if-not-enter.false) in
    subst (λ l. AreStepsByEntries g (take (c.loop-entry.entry-index + 1) c.args.entries.now) (steps_in l)) (sym (take_at new (drop (length new) old.items) old.len (long ∙ sym old.ok.0)))
    (one_more g c.args.entries.now c.loop-entry.entry-index c.entry-item.result c.loop-entry-test.true c.entry-item.is c.modules-modules.ensures.formed
    (steps_in old.items) (steps_in new) c.loop-entry.invariant entered)

pub returns-then-not-enter-clause-bad : goal.returns-then-not-enter-clause-bad
returns-then-not-enter-clause-bad c = λ q all.
    second_refuted c.args.g.now.core c.args.entries.now c.loop-entry.entry-index c.entry-item.result c.loop-entry-test.true c.entry-item.is
    (steps_in c.loop-entry.steps.items) c.loop-entry.invariant
    (subst (λ l. IsSecondEntry c.args.g.now.core c.entry-item.result (steps_in l)) c.deref_mut.ensures.value (c.enter.ensures.second c.if-not-enter.true)) all

pub returns-clause-steps : goal.returns-clause-steps
returns-clause-steps c = all_entered c.args.g.now.core c.args.entries.now c.loop-entry.entry-index (omega (arith, c.loop-entry-test.false)) (steps_in c.loop-entry.steps.items) c.loop-entry.invariant
