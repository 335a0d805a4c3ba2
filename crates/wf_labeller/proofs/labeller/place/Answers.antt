use Rattle.std.proofs.Common.{sym, ap, ◌∙◌}
use Rattle.std.specs.Prelude.{option_map}
use Rattle.wf_model.specs.Grammar.{Production, head_of}
use Rattle.wf_spec.specs.Held.{HeldGrammar}
use Rattle.wf_run.specs.declared.node.NodeNo.{NodeNo}
use Rattle.wf_labeller.proofs.Expansions.{is_found, is_of_head, is_closed, have_room, rooms_give}
use Rattle.wf_labeller.proofs.labeller.place.Goals as goal

pub returns-in_default-clause-none : goal.returns-in_default-clause-none
returns-in_default-clause-none c none events run taken =
    is_found c.args.run.now events run c.args.instance.now c.args.production c.args.names.now taken (sym (c.requires.found events run) ∙ ap (option_map (λ (n : NodeNo). n.0)) c.in_default.is)

pub returns-then-ne-clause-none : goal.returns-then-ne-clause-none
returns-then-ne-clause-none c none events run taken =
    let at = sym (c.requires.found events run) ∙ ap (option_map (λ (n : NodeNo). n.0)) c.in-Some.is in
    let head = c.head.ensures ∙ (ap (λ (q : Production). q.head) c.production-rule.ensures.core ∙ ap (λ (g : HeldGrammar). head_of g.core c.args.production) c.grammar-g.ensures.grammar) in
    is_of_head c.args.run.now events run c.args.instance.now c.args.production c.args.names.now taken c.in-Some.n.0 at _ _ c.module.ensures head (sym c.ne.ensures ∙ c.if-ne.true)

pub returns-then-is_some-clause-none : goal.returns-then-is_some-clause-none
returns-then-is_some-clause-none c none events run taken =
    let at = sym (c.requires.found events run) ∙ ap (option_map (λ (n : NodeNo). n.0)) c.in-Some.is in
    is_closed c.args.run.now events run c.args.instance.now c.args.production c.args.names.now taken c.in-Some.n.0 at _ _ c.children.ensures (sym c.is_some.ensures ∙ c.if-is_some.true)

pub returns-then-not-have_room-clause-none : goal.returns-then-not-have_room-clause-none
returns-then-not-have_room-clause-none c none events run taken =
    have_room c.args.run.now events run c.args.instance.now c.args.production c.args.names.now taken (sym c.have_room.ensures ∙ c.if-not-have_room.true)

pub returns-clause-short : goal.returns-clause-short
returns-clause-short c = rooms_give c.args.names.now (sym c.have_room.ensures ∙ c.if-not-have_room.false)
