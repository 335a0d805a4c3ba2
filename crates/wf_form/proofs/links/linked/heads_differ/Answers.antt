use Rattle.std.proofs.Common.{◌∙◌, map, sym, true≢false}
use Rattle.wf_model.specs.Lists.{AllDiffer}
use Rattle.wf_form.specs.Wiring.{AreSmall, entered_by, left_by, in_head}
use Rattle.wf_form.proofs.LinkEnds.{read_as, seen_as, heads_differ}
use Rattle.wf_form.proofs.links.linked.heads_differ.Goals as goal

pub differ-requires-clause-small : goal.differ-requires-clause-small
differ-requires-clause-small c =
    read_as (AreSmall 1) c.deref.result.now c.in_ok-inputs.inputs.items (map in_head (entered_by c.args.one.now)) c.deref.ensures.value c.in_ok-inputs.ensures c.requires.entered

pub differ-requires-2-clause-small : goal.differ-requires-2-clause-small
differ-requires-2-clause-small c =
    read_as (AreSmall 1) c.deref-2.result.now c.in_ok-outputs.outputs.items (map in_head (left_by c.args.one.now)) c.deref-2.ensures.value c.in_ok-outputs.ensures c.requires.left

pub returns-then-not-fed : goal.returns-then-not-fed
returns-then-not-fed c = (
  λ t. absurd (true≢false (sym t)),
  λ d. sym c.if-not-fed.true ∙ c.in_ok-fed.ensures.1 (read_as AllDiffer c.deref.result.now c.in_ok-inputs.inputs.items (map in_head (entered_by c.args.one.now)) c.deref.ensures.value c.in_ok-inputs.ensures
      ((heads_differ (entered_by c.args.one.now)).1 d.0)),
)

pub returns : goal.returns
returns c = (
  λ t. (
    (heads_differ (entered_by c.args.one.now)).0 (seen_as AllDiffer c.deref.result.now c.in_ok-inputs.inputs.items (map in_head (entered_by c.args.one.now)) c.deref.ensures.value c.in_ok-inputs.ensures (c.in_ok-fed.ensures.0 c.if-not-fed.false)),
    (heads_differ (left_by c.args.one.now)).0 (seen_as AllDiffer c.deref-2.result.now c.in_ok-outputs.outputs.items (map in_head (left_by c.args.one.now)) c.deref-2.ensures.value c.in_ok-outputs.ensures (c.in_ok-used.ensures.0 t)),
  ),
  λ d. c.in_ok-used.ensures.1 (read_as AllDiffer c.deref-2.result.now c.in_ok-outputs.outputs.items (map in_head (left_by c.args.one.now)) c.deref-2.ensures.value c.in_ok-outputs.ensures
      ((heads_differ (left_by c.args.one.now)).1 d.1)),
)
