use Rattle.std.proofs.Common.{◌≡◌, List, [], sym, ap, ◌∙◌, subst}
use Rattle.std.proofs.lemmas.Result.{err_from_is_err_and}
use Rattle.wf_label.specs.declared.label.PlaceStep.{PlaceStep as PlaceStepHeld}
use Rattle.wf_spec.specs.Held.{HeldGrammar}
use Rattle.wf_loops.specs.Looped.{loop_in}
use Rattle.wf_translate.specs.Chains.{IsStepRead, IsPlaceTurn, steps_seen}
use Rattle.wf_translate.specs.Translated.{IsPlaceRead}
use Rattle.wf_translate.proofs.Options.{passed_error}
use Rattle.wf_translate.proofs.Turning.{start_read, step_join, end_join, place_read}
use Rattle.wf_translate.proofs.place.read_place.Goals as goal

pub loop-steps-init : goal.loop-steps-init
loop-steps-init c =
    let l = c.args.looped.now in
    let g = l.accepted.grammar.core in
    let loop = loop_in l.steps in
    let bits = c.args.reader.now.left in
    let at : c.start-m.result.0 ≡ g.start = c.start-m.ensures.start ∙ ap (λ (h : HeldGrammar). h.core.start) c.grammar-g.ensures.grammar in
    subst (λ (xs : List PlaceStepHeld). IsStepRead g loop g.start bits bits [] (steps_seen xs) c.start-m.result.0) (sym c.new-steps.ensures.items)
    (subst (IsStepRead g loop g.start bits bits [] []) (sym at) (start_read g loop g.start bits [] c.grammar-g.ensures.good.accepted.formed.start))

pub loop-steps-preserved : goal.loop-steps-preserved
loop-steps-preserved c =
    let l = c.args.looped.now in
    let g = l.accepted.grammar.core in
    let loop = loop_in l.steps in
    let t = subst (IsPlaceTurn g loop c.loop-steps.m.0 c.loop-steps.reader.left c.read_turn.new.reader.left (steps_seen c.loop-steps.steps.items) (steps_seen c.read_turn.new.steps.items)) c.in-Module.is c.in_ok-turn.ensures.turn in
    step_join g loop g.start c.loop-steps.m.0 c.in-Module.next.0 c.args.reader.now.left c.loop-steps.reader.left c.read_turn.new.reader.left [] (steps_seen c.loop-steps.steps.items) (steps_seen c.read_turn.new.steps.items) c.loop-steps.invariant t.0

pub loop-steps-smaller : goal.loop-steps-smaller
loop-steps-smaller c =
    let l = c.args.looped.now in
    let g = l.accepted.grammar.core in
    let loop = loop_in l.steps in
    (subst (IsPlaceTurn g loop c.loop-steps.m.0 c.loop-steps.reader.left c.read_turn.new.reader.left (steps_seen c.loop-steps.steps.items) (steps_seen c.read_turn.new.steps.items)) c.in-Module.is c.in_ok-turn.ensures.turn).1

pub returns-in-Ending-clause-read : goal.returns-in-Ending-clause-read
returns-in-Ending-clause-read c =
    let l = c.args.looped.now in
    let g = l.accepted.grammar.core in
    let loop = loop_in l.steps in
    let after = steps_seen c.read_turn.new.steps.items in
    let t = subst (IsPlaceTurn g loop c.loop-steps.m.0 c.loop-steps.reader.left c.read_turn.new.reader.left (steps_seen c.loop-steps.steps.items) after) c.in-Ending.is c.in_ok-turn.ensures.turn in
    let bits = c.args.reader.now.left in
    subst (λ (xs : List PlaceStepHeld). IsPlaceRead g loop g.start bits (record { steps = steps_seen xs; chain = c.in-Ending.last; alternative = c.in-Ending.alternative; edge = c.in-Ending.edge.0 })) (sym c.from_vec.ensures)
    (place_read g loop g.start bits after c.in-Ending.last c.in-Ending.alternative c.in-Ending.edge.0
    (end_join g loop g.start c.loop-steps.m.0 bits c.loop-steps.reader.left [] (steps_seen c.loop-steps.steps.items) after c.in-Ending.last c.in-Ending.alternative c.in-Ending.edge.0 c.loop-steps.invariant t))

pub returns-in_err-turn-clause-malformed : goal.returns-in_err-turn-clause-malformed
returns-in_err-turn-clause-malformed c =
    passed_error _ c.from_residual.result c.in_err-turn.field-0.0 (err_from_is_err_and c.from_residual.result c.from_residual.ensures.1) (λ e h. c.in_err-turn.ensures.malformed e (c.loop-steps.invariant.back h))

pub returns-in-Outside-clause-read : goal.returns-in-Outside-clause-read
returns-in-Outside-clause-read c =
    let l = c.args.looped.now in
    let g = l.accepted.grammar.core in
    let loop = loop_in l.steps in
    c.loop-steps.invariant.out (subst (IsPlaceTurn g loop c.loop-steps.m.0 c.loop-steps.reader.left c.read_turn.new.reader.left (steps_seen c.loop-steps.steps.items) (steps_seen c.read_turn.new.steps.items)) c.in-Outside.is c.in_ok-turn.ensures.turn)
