use Rattle.std.proofs.Common.{◌∙◌, refl, sym, subst, true≢false}
use Rattle.std.proofs.lemmas.Result.{err_from_is_err_and}
use Rattle.wf_spec.specs.Held.{HeldGrammar}
use Rattle.wf_loops.specs.Looped.{loop_in}
use Rattle.wf_loops.specs.Tables.{steps_in}
use Rattle.wf_loops.specs.Entries.{AreEntriesOf, AreStepsByEntries}
use Rattle.wf_loops.specs.Good.{AreStepsOfModules, AreGoodSteps}
use Rattle.wf_loops.proofs.GoodLoops.{good_entries, good_at, good_from}
use Rattle.wf_loops.proofs.GoodSteps.{steps_of_modules, looped, of_same}
use Rattle.wf_loops.proofs.looped.good_steps.Goals as goal

pub are_good-requires : goal.are_good-requires
are_good-requires c =
    let entries = c.args.entries.now in
    let steps = c.in_ok-steps.steps.items in
    let are = of_same (λ g s. AreStepsByEntries g entries s) _ _ steps steps c.grammar.ensures.grammar refl c.in_ok-steps.ensures.steps in
    of_same AreStepsOfModules _ _ steps _ (sym c.linear.ensures.grammar) (sym c.deref.ensures.value)
    (steps_of_modules c.args.accepted.now.grammar.core c.grammar.ensures.accepted.formed entries (steps_in steps) are)

pub returns-then-not-are_good-clause-bad : goal.returns-then-not-are_good-clause-bad
returns-then-not-are_good-clause-bad c = λ q good.
    let g = c.args.accepted.now.grammar.core in
    let entries = c.args.entries.now in
    let steps = c.in_ok-steps.steps.items in
    let are = of_same (λ g s. AreStepsByEntries g entries s) _ _ steps steps c.grammar.ensures.grammar refl c.in_ok-steps.ensures.steps in
    let at = of_same (λ g s. AreGoodSteps g (loop_in s)) _ _ steps _ (sym c.linear.ensures.grammar) (sym c.deref.ensures.value)
    (good_at g c.grammar.ensures.accepted.formed entries (loop_in (steps_in steps)) are.loops good) in
    true≢false (sym (c.are_good.ensures.1 at) ∙ c.if-not-are_good.true)

pub returns-clause-looped : goal.returns-clause-looped
returns-clause-looped c =
    let entries = c.args.entries.now in
    let steps = c.in_ok-steps.steps.items in
    let are = of_same (λ g s. AreStepsByEntries g entries s) _ _ steps steps c.grammar.ensures.grammar refl c.in_ok-steps.ensures.steps in
    let at = of_same (λ g s. AreGoodSteps g (loop_in s)) _ _ _ steps c.linear.ensures.grammar c.deref.ensures.value (c.are_good.ensures.0 c.if-not-are_good.false) in
    looped c.args.accepted.now entries (steps_in steps) c.grammar.ensures.accepted are at

pub returns-clause-good : goal.returns-clause-good
returns-clause-good c =
    let entries = c.args.entries.now in
    let steps = c.in_ok-steps.steps.items in
    let are = of_same (λ g s. AreStepsByEntries g entries s) _ _ steps steps c.grammar.ensures.grammar refl c.in_ok-steps.ensures.steps in
    let at = of_same (λ g s. AreGoodSteps g (loop_in s)) _ _ _ steps c.linear.ensures.grammar c.deref.ensures.value (c.are_good.ensures.0 c.if-not-are_good.false) in
    good_from c.args.accepted.now.grammar.core c.grammar.ensures.accepted.formed entries (loop_in (steps_in steps)) are.loops are.entries_of at

pub returns-clause-loops : goal.returns-clause-loops
returns-clause-loops c =
    let steps = c.in_ok-steps.steps.items in
    (of_same (λ g s. AreStepsByEntries g c.args.entries.now s) _ _ steps steps c.grammar.ensures.grammar refl c.in_ok-steps.ensures.steps).loops

pub returns-in_err-steps-clause-bad : goal.returns-in_err-steps-clause-bad
returns-in_err-steps-clause-bad c =
    let entries = c.args.entries.now in
    let p = err_from_is_err_and c.from_residual.result c.from_residual.ensures.1 in
    rw (p.1, p.2) (λ q good. c.in_err-steps.ensures.bad q
    (subst (λ (h : HeldGrammar). AreEntriesOf h.core entries) (sym c.grammar.ensures.grammar) (good_entries c.args.accepted.now.grammar.core entries good)))
