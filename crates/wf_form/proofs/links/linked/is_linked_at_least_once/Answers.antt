use Rattle.std.proofs.Common.{◌<◌, ℕ, length, subst, sym}
use Rattle.wf_model.specs.Grammar.{Module}
use Rattle.wf_model.specs.Lists.{IsIn}
use Rattle.wf_form.specs.Wiring.{entered_by, left_by}
use Rattle.wf_form.proofs.Placing.{few_there}
use Rattle.wf_spec.proofs.Reading.{module_read}
use Rattle.wf_form.proofs.links.linked.is_linked_at_least_once.Goals as goal

pub head_is_met-requires-clause-few_ports : goal.head_is_met-requires-clause-few_ports
head_is_met-requires-clause-few_ports c = few_there c.args.modules.now c.args.one.now.head.0 c.index-modules-one.result c.requires.few_ports c.requires.within.head c.index-modules-one.is

pub head_is_met-requires-clause-entered : goal.head_is_met-requires-clause-entered
head_is_met-requires-clause-entered c =
    subst (λ (m : Module). (k : ℕ) → IsIn k (entered_by c.args.one.now) → k < length m.inputs) (sym (module_read c.args.modules.now c.args.one.now.head.0 c.index-modules-one.result c.requires.within.head c.index-modules-one.is))
    c.requires.within.entered

pub head_is_met-requires-clause-left : goal.head_is_met-requires-clause-left
head_is_met-requires-clause-left c =
    subst (λ (m : Module). (k : ℕ) → IsIn k (left_by c.args.one.now) → k < length m.outputs) (sym (module_read c.args.modules.now c.args.one.now.head.0 c.index-modules-one.result c.requires.within.head c.index-modules-one.is))
    c.requires.within.left

pub returns : goal.returns
returns c =
    let is = module_read c.args.modules.now c.args.one.now.head.0 c.index-modules-one.result c.requires.within.head c.index-modules-one.is in
    let inputs = λ (m : Module). (k : ℕ) → k < length m.inputs → IsIn k (entered_by c.args.one.now) in
    let outputs = λ (m : Module). (k : ℕ) → k < length m.outputs → IsIn k (left_by c.args.one.now) in (
      λ t. record {
        inputs = (c.in_ok-inside.ensures.0 c.if-not-inside.false).0;
        outputs = (c.in_ok-inside.ensures.0 c.if-not-inside.false).1;
        head_inputs = subst inputs is (c.in_ok-outside.ensures.0 t).0;
        head_outputs = subst outputs is (c.in_ok-outside.ensures.0 t).1;
      },
      λ h. c.in_ok-outside.ensures.1 (subst inputs (sym is) h.head_inputs, subst outputs (sym is) h.head_outputs),
    )
