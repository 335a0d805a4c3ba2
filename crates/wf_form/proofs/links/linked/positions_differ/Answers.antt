use Rattle.std.proofs.Common.{◌∙◌, subst, sym}
use Rattle.wf_form.specs.Wiring.{AreSmall, fed_by, used_by}
use Rattle.wf_form.proofs.LinkEnds.{read_as}
use Rattle.wf_form.proofs.links.linked.positions_differ.Goals as goal

pub differ-requires-clause-small : goal.differ-requires-clause-small
differ-requires-clause-small c =
    read_as (AreSmall c.len-places.result) c.deref.result.now c.in_ok-to.to.items (fed_by c.args.one.now) c.deref.ensures.value c.in_ok-to.ensures
    (subst (λ n. AreSmall n (fed_by c.args.one.now)) (sym (c.len-places.ensures ∙ c.args.one.now.positions.ok.0)) c.requires.fed)

pub differ-requires-2-clause-small : goal.differ-requires-2-clause-small
differ-requires-2-clause-small c =
    read_as (AreSmall c.len-places.result) c.deref-2.result.now c.in_ok-from.from.items (used_by c.args.one.now) c.deref-2.ensures.value c.in_ok-from.ensures
    (subst (λ n. AreSmall n (used_by c.args.one.now)) (sym (c.len-places.ensures ∙ c.args.one.now.positions.ok.0)) c.requires.used)
