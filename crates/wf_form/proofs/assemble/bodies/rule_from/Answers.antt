use Rattle.std.proofs.Common.{◌∙◌, ap}
use Rattle.std.proofs.lemmas.List.{get_or_default}
use Rattle.wf_model.specs.Grammar.{Module}
use Rattle.wf_form.specs.declared.wiring.Entry.{Entry}
use Rattle.wf_form.specs.declared.wiring.Exit.{Exit}
use Rattle.wf_form.specs.Wiring.{head_of}
use Rattle.wf_form.proofs.Assembling.{within_read}
use Rattle.wf_form.proofs.assemble.bodies.rule_from.Goals as goal

pub entries_by_port-requires-clause-within : goal.entries_by_port-requires-clause-within
entries_by_port-requires-clause-within c =
    within_read (λ (e : Entry). e.port.0) c.args.wiring.entries.items c.deref.result.now (head_of c.args.modules.now c.args.wiring).inputs c.inputs.result.now c.deref.ensures.value
    (c.inputs.ensures ∙ ap (λ (m : Module). m.inputs) (c.index-modules-head.is ∙ get_or_default c.args.modules.now c.args.wiring.head.0 _ _ c.requires.head))
    c.requires.entries_within

pub exits_by_port-requires-clause-within : goal.exits_by_port-requires-clause-within
exits_by_port-requires-clause-within c =
    within_read (λ (e : Exit). e.port.0) c.args.wiring.exits.items c.deref-2.result.now (head_of c.args.modules.now c.args.wiring).outputs c.outputs.result.now c.deref-2.ensures.value
    (c.outputs.ensures ∙ ap (λ (m : Module). m.outputs) (c.index-modules-head.is ∙ get_or_default c.args.modules.now c.args.wiring.head.0 _ _ c.requires.head))
    c.requires.exits_within
