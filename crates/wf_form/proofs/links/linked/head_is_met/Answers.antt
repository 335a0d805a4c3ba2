use Rattle.std.proofs.Common.{◌↔◌, ◌<◌, ℕ, IsTrue, ap, length, map}
use Rattle.wf_model.specs.Lists.{IsIn, AllDiffer}
use Rattle.wf_form.specs.Wiring.{AreSmall, entered_by, left_by, in_head}
use Rattle.wf_form.proofs.LinkEnds.{read_as, heads_differ, head_side, small_heads, not_both, and_then_both}
use Rattle.wf_form.proofs.links.linked.head_is_met.Goals as goal
use Rattle.wf_form.proofs.links.linked.head_is_met.Goals.{In_ok-fed}

pub are_met-requires-clause-small : goal.are_met-requires-clause-small
are_met-requires-clause-small c =
    read_as (AreSmall 1) c.deref.result.now c.in_ok-to.to.items (map in_head (entered_by c.args.one.now)) c.deref.ensures.value c.in_ok-to.ensures
    (small_heads (length c.args.head.now.inputs) (entered_by c.args.one.now) c.requires.few_ports.inputs c.requires.entered)

pub are_met-requires-clause-once : goal.are_met-requires-clause-once
are_met-requires-clause-once c =
    read_as AllDiffer c.deref.result.now c.in_ok-to.to.items (map in_head (entered_by c.args.one.now)) c.deref.ensures.value c.in_ok-to.ensures
    ((heads_differ (entered_by c.args.one.now)).1 c.requires.once.head_inputs)

pub are_met-requires-2-clause-small : goal.are_met-requires-2-clause-small
are_met-requires-2-clause-small c =
    read_as (AreSmall 1) c.deref-2.result.now c.in_ok-from.from.items (map in_head (left_by c.args.one.now)) c.deref-2.ensures.value c.in_ok-from.ensures
    (small_heads (length c.args.head.now.outputs) (left_by c.args.one.now) c.requires.few_ports.outputs c.requires.left)

pub are_met-requires-2-clause-once : goal.are_met-requires-2-clause-once
are_met-requires-2-clause-once c =
    read_as AllDiffer c.deref-2.result.now c.in_ok-from.from.items (map in_head (left_by c.args.one.now)) c.deref-2.ensures.value c.in_ok-from.ensures
    ((heads_differ (left_by c.args.one.now)).1 c.requires.once.head_outputs)

inputs_side : (c : In_ok-fed) → IsTrue c.in_ok-fed.fed ↔ ((k : ℕ) → k < length c.args.head.now.inputs → IsIn k (entered_by c.args.one.now))
inputs_side c =
    head_side (length c.inputs.result.now) (length c.args.head.now.inputs) (entered_by c.args.one.now) c.deref.result.now c.in_ok-to.to.items c.in_ok-fed.fed
    (ap length c.inputs.ensures) c.deref.ensures.value c.in_ok-to.ensures c.in_ok-fed.ensures

pub returns-then-not-fed : goal.returns-then-not-fed
returns-then-not-fed c =
    not_both c.in_ok-fed.fed ((k : ℕ) → k < length c.args.head.now.inputs → IsIn k (entered_by c.args.one.now)) ((k : ℕ) → k < length c.args.head.now.outputs → IsIn k (left_by c.args.one.now))
    c.if-not-fed.true (inputs_side (goal.at.returns-then-not-fed c).In_ok-fed)

pub returns : goal.returns
returns c =
    and_then_both c.in_ok-fed.fed c.in_ok-used.used ((k : ℕ) → k < length c.args.head.now.inputs → IsIn k (entered_by c.args.one.now)) ((k : ℕ) → k < length c.args.head.now.outputs → IsIn k (left_by c.args.one.now))
    c.if-not-fed.false (inputs_side (goal.at.returns c).In_ok-fed)
    (head_side (length c.outputs.result.now) (length c.args.head.now.outputs) (left_by c.args.one.now) c.deref-2.result.now c.in_ok-from.from.items c.in_ok-used.used
    (ap length c.outputs.ensures) c.deref-2.ensures.value c.in_ok-from.ensures c.in_ok-used.ensures)
