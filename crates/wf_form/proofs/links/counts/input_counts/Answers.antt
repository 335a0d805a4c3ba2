use Rattle.std.proofs.Common.{ap, ◌∙◌, List, length, map}
use Rattle.std.proofs.lemmas.List.{take_all}
use Rattle.wf_model.specs.declared.body.Position.{Position as PositionHeld}
use Rattle.wf_model.specs.Grammar.{Module}
use Rattle.wf_model.specs.Meaning.{position_of}
use Rattle.wf_spec.specs.Bodies.{modules_at}
use Rattle.wf_form.specs.Bodies.{inputs_in}
use Rattle.wf_spec.proofs.Reading.{module_there, module_read}
use Rattle.wf_form.proofs.Sides.{counts_more}
use Rattle.wf_form.proofs.links.counts.input_counts.Goals as goal

pub bounds-modules-q : goal.bounds-modules-q
bounds-modules-q c = c.requires c.q-item.result.module.0 (module_there c.args.positions.now c.loop-q.q-index c.q-item.result c.loop-q-test.true c.q-item.is)

pub loop-q-preserved : goal.loop-q-preserved
loop-q-preserved c =
    let low = c.requires c.q-item.result.module.0 (module_there c.args.positions.now c.loop-q.q-index c.q-item.result c.loop-q-test.true c.q-item.is) in
    let read = module_read c.args.modules.now c.q-item.result.module.0 c.index-modules-q.result low c.index-modules-q.is in
    counts_more (inputs_in c.args.modules.now) c.args.positions.now c.loop-q.q-index c.q-item.result _ _ _ c.loop-q-test.true c.q-item.is c.loop-q.invariant c.in_ok-push.ensures.items
    (ap length c.inputs.ensures ∙ ap (λ (m : Module). length m.inputs) read)

pub returns : goal.returns
returns c =
    c.loop-q.invariant ∙ ap (λ (l : List PositionHeld). map (inputs_in c.args.modules.now) (modules_at (map position_of l))) (take_all c.loop-q.q-index c.args.positions.now c.loop-q-test.false)
