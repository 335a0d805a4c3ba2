use Rattle.std.proofs.Common.{◌<◌, ◌+◌, [], ◌∷◌, ◌++◌, length, map, ◌∙◌, refl, ap, arith}
use Rattle.std.proofs.lemmas.List.{take_rest, length-drop}
use Rattle.wf_model.specs.declared.body.Step.{Step as StepHeld}
use Rattle.wf_model.specs.Grammar.{body_of}
use Rattle.wf_model.specs.Steps.{step_of}
use Rattle.numbered_names.specs.Names.{numbered_name}
use Rattle.compare_model.specs.RunAlong.{expand_along}
use Rattle.wf_compare.proofs.Heads.{first_and_rest, none_left}
use Rattle.wf_compare.proofs.RunSteps.{event_more, number_more, of_first, of_rest, run_done, number_done}
use Rattle.wf_compare.proofs.run.run_along.Goals as goal

pub loop-left-init : goal.loop-left-init
loop-left-init c =
    let few = c.requires.few in
    record {
      few = omega arith;
      productions = c.requires.productions;
      positions = c.requires.positions;
      run_is =
          ap (λ l. l ++ expand_along c.args.g.now.core 1 0 (map step_of c.args.steps.now))
          (c.in_ok-push.ensures.items ∙ (ap (λ l. l ++ c.in_ok-start_event.field-0 ∷ []) c.in_ok-run.ensures.items ∙ ap (λ e. e ∷ []) c.in_ok-start_event.ensures));
      number = refl;
    }

pub expand_event-requires : goal.expand_event-requires
expand_event-requires c =
    let few = c.loop-left.invariant.few in
    let some = c.in-len1-up.len_at_least in
    let count = c.position_count-count.ensures.few in
    omega arith

pub overflow_add-here : goal.overflow_add-here
overflow_add-here c =
    let split = first_and_rest c.loop-left.left.now _ (record { production = record { 0 = 0 }; position = record { 0 = 0 } }) c.in-len1-up.len_at_least (take_rest c.loop-left.left.now 1) in
    let few = c.loop-left.invariant.few in
    let some = c.in-len1-up.len_at_least in
    let is = c.position_count-count.ensures.count in
    let count = c.position_count-count.ensures.few in
    let below = of_first (λ (s : StepHeld). s.position.0 < length (body_of c.args.g.now.core s.production.0)) c.loop-left.left.now _ _ split c.loop-left.invariant.positions in
    let place = c.from.ensures in
    omega arith

pub overflow_add-made : goal.overflow_add-made
overflow_add-made c =
    let few = c.loop-left.invariant.few in
    let some = c.in-len1-up.len_at_least in
    let count = c.position_count-count.ensures.few in
    omega arith

pub loop-left-smaller : goal.loop-left-smaller
loop-left-smaller c =
    let h = c.in-len1-up.len_at_least in
    let e = ap length (take_rest c.loop-left.left.now 1) in
    let d = length-drop 1 c.loop-left.left.now in
    omega arith

pub loop-left-preserved : goal.loop-left-preserved
loop-left-preserved c =
    let g = c.args.g.now.core in
    let split = first_and_rest c.loop-left.left.now _ (record { production = record { 0 = 0 }; position = record { 0 = 0 } }) c.in-len1-up.len_at_least (take_rest c.loop-left.left.now 1) in
    let before = c.loop-left.invariant.few in
    let some = ap length split in
    let count = c.position_count-count.ensures.few in
    let is = c.position_count-count.ensures.count in
    let place = ap (λ k. c.loop-left.made + k) c.from.ensures in
    record {
      few = omega arith;
      productions = of_rest (λ (s : StepHeld). s.production.0 < length g.productions) c.loop-left.left.now _ _ split c.loop-left.invariant.productions;
      positions = of_rest (λ (s : StepHeld). s.position.0 < length (body_of g s.production.0)) c.loop-left.left.now _ _ split c.loop-left.invariant.positions;
      run_is = event_more g c.loop-left.made c.loop-left.here c.position_count-count.result _ c.loop-left.left.now _ _ c.in_ok-expand_event.field-0 c.loop-left.run.items c.push-in-len1-up.new.self.items _ split is place
          c.in_ok-expand_event.ensures c.in_ok-push-2.ensures.items c.loop-left.invariant.run_is;
      number = number_more g c.loop-left.made c.loop-left.here c.position_count-count.result _ _ c.loop-left.left.now _ _ split is place c.loop-left.invariant.number;
    }

pub returns-clause-run : goal.returns-clause-run
returns-clause-run c =
    let nothing = none_left c.loop-left.left.now (λ h. let l = c.in_default.len_below in absurd (omega arith)) in
    run_done c.args.g.now.core c.loop-left.made c.loop-left.here c.loop-left.left.now c.loop-left.run.items _ nothing c.loop-left.invariant.run_is

pub returns-clause-instance : goal.returns-clause-instance
returns-clause-instance c =
    let nothing = none_left c.loop-left.left.now (λ h. let l = c.in_default.len_below in absurd (omega arith)) in
    c.in_ok-instance.ensures ∙ ap numbered_name (number_done c.args.g.now.core c.loop-left.made c.loop-left.here _ c.loop-left.left.now nothing c.loop-left.invariant.number)
