use Rattle.std.proofs.Common.{◌<◌, ◌+◌, ◌∙◌, ℕ, List, Option, None, ap, sym, subst, length, get_or, arith}
use Rattle.std.proofs.lemmas.List.{length_push}
use Rattle.wf_model.specs.declared.body.Step.{Step as StepHeld}
use Rattle.wf_model.proofs.Positions.{each_more}
use Rattle.wf_recur.specs.Steps.{TellsStep}
use Rattle.std.proofs.lemmas.Result.{err_from_is_err_and}
use Rattle.wf_recur.proofs.Telling.{fault_first, steps_linear}
use Rattle.wf_recur.proofs.steps.only_steps.Goals as goal

pub loop-m-preserved : goal.loop-m-preserved
loop-m-preserved c =
    let g = c.args.g.now.core in
    let e = c.in_ok-push.ensures.items in
    record {
      count = ap length e ∙ (length_push c.loop-m.steps.items c.in_ok-step.step ∙ ap (λ n. n + 1) c.loop-m.invariant.count);
      told = subst (λ (l : List (Option StepHeld)). (k : ℕ) → k < c.loop-m.m + 1 → TellsStep g k (get_or l k None)) (sym e)
          (each_more (TellsStep g) c.loop-m.steps.items c.loop-m.m c.in_ok-step.step None c.loop-m.invariant.count c.loop-m.invariant.told c.in_ok-step.ensures.only);
    }

pub returns-in_err-step-clause-refused : goal.returns-in_err-step-clause-refused
returns-in_err-step-clause-refused c =
    let p = err_from_is_err_and c.from_residual-in_err-step.result c.from_residual-in_err-step.ensures.1 in
    rw (p.1, p.2) (fault_first c.args.g.now.core c.loop-m.m c.loop-m.steps.items c.loop-m.invariant.told c.in_err-step.field-0.0 c.in_err-step.ensures.refused)

pub returns-clause-linear : goal.returns-clause-linear
returns-clause-linear c =
    let e = ap length c.modules-m-end.ensures.modules in
    steps_linear c.args.g.now.core c.modules-m-end.ensures.formed c.loop-m.steps.items (record { one_each = omega (arith, c.loop-m.invariant.count); told = λ m h. c.loop-m.invariant.told m (omega arith) })
