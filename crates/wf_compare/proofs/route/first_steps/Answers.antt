use Rattle.std.proofs.Common.{◌++◌, length, sym, ◌∙◌, subst, ap, arith}
use Rattle.std.proofs.lemmas.List.{take_rest, length-drop}
use Rattle.wf_graph.specs.Routes.{IsRoute}
use Rattle.wf_compare.specs.Steps.{row_of, targets_in, AreFirstSteps}
use Rattle.wf_compare.proofs.Heads.{first_and_rest, none_left}
use Rattle.wf_compare.proofs.FirstSteps.{led_below, row_read, step_there, step_more, steps_all}
use Rattle.wf_compare.proofs.route.first_steps.Goals as goal

pub loop-left-init : goal.loop-left-init
loop-left-init c = record {
  route = c.requires.route;
  onward = λ more f. subst (λ l. AreFirstSteps (row_of c.args.rows.now) c.args.from c.args.route.now (l ++ more)) (sym c.in_ok-steps.ensures.items) f;
}

pub bounds-rows-at : goal.bounds-rows-at
bounds-rows-at c =
    let split = first_and_rest c.loop-left.left.now _ 0 c.in-len1-up.len_at_least (take_rest c.loop-left.left.now 1) in
    let r = c.loop-left.invariant.route in
    led_below c.args.rows.now c.loop-left.at _ (subst (λ l. IsRoute (targets_in c.args.rows.now) c.loop-left.at l r.0) split r.1).0

pub first_step-requires : goal.first_step-requires
first_step-requires c =
    let split = first_and_rest c.loop-left.left.now _ 0 c.in-len1-up.len_at_least (take_rest c.loop-left.left.now 1) in
    let r = c.loop-left.invariant.route in
    let i = (subst (λ l. IsRoute (targets_in c.args.rows.now) c.loop-left.at l r.0) split r.1).0 in
    step_there c.args.rows.now c.loop-left.at _ _
    (row_read c.args.rows.now c.loop-left.at c.index-rows-at.result (led_below c.args.rows.now c.loop-left.at _ i) c.index-rows-at.is ∙ sym c.deref.ensures.value) i

pub loop-left-smaller : goal.loop-left-smaller
loop-left-smaller c =
    let h = c.in-len1-up.len_at_least in
    let e = ap length (take_rest c.loop-left.left.now 1) in
    let d = length-drop 1 c.loop-left.left.now in
    omega arith

pub loop-left-preserved : goal.loop-left-preserved
loop-left-preserved c =
    let split = first_and_rest c.loop-left.left.now _ 0 c.in-len1-up.len_at_least (take_rest c.loop-left.left.now 1) in
    let r = c.loop-left.invariant.route in
    let s = subst (λ l. IsRoute (targets_in c.args.rows.now) c.loop-left.at l r.0) split r.1 in
    record {
      route = (r.0, s.1);
      onward = step_more (row_of c.args.rows.now) c.args.from c.loop-left.at _ c.args.route.now c.loop-left.left.now _ c.loop-left.steps.items c.push.new.self.items c.deref.result.now c.first_step.result split
          (row_read c.args.rows.now c.loop-left.at c.index-rows-at.result (led_below c.args.rows.now c.loop-left.at _ s.0) c.index-rows-at.is ∙ sym c.deref.ensures.value)
          c.first_step.ensures c.in_ok-push.ensures.items c.loop-left.invariant.onward;
    }

pub returns : goal.returns
returns c =
    let nothing = none_left c.loop-left.left.now (λ h. let l = c.in_default.len_below in absurd (omega arith)) in
    steps_all (row_of c.args.rows.now) c.args.from c.loop-left.at c.args.route.now c.loop-left.left.now c.loop-left.steps.items nothing c.loop-left.invariant.onward
