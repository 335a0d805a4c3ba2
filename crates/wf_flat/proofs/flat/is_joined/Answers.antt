use Rattle.std.proofs.Common.{◌≡◌, ◌∙◌, refl, sym, ap, subst, true≢false}
use Rattle.wf_model.specs.Lists.{Walk, here}
use Rattle.wf_model.specs.Links.{Path}
use Rattle.wf_graph.specs.Graph.{HasStep}
use Rattle.wf_flat.specs.contracts.graph.PortPartialEq.TheImpl.{eq-value}
use Rattle.wf_flat.specs.Flat.{numbered_port, numbered_links}
use Rattle.wf_flat.specs.Numbering.{number_of}
use Rattle.wf_flat.specs.Leading.{led_from}
use Rattle.wf_flat.proofs.Numbers.{port_same, port_self}
use Rattle.wf_flat.proofs.Paths.{none_from, none_to, by_numbers}
use Rattle.wf_flat.proofs.flat.is_joined.Goals as goal

pub returns-then-eq-clause-tells : goal.returns-then-eq-clause-tells
returns-then-eq-clause-tells c = λ ls i.
    let e = port_same c.args.from c.args.to (sym c.eq.ensures ∙ c.if-eq.true) in
    (λ t. subst (λ z. Path (numbered_links ls) (numbered_port c.args.from) (numbered_port z)) e here, λ w. refl)

pub returns-in_default-clause-tells : goal.returns-in_default-clause-tells
returns-in_default-clause-tells c = λ ls i.
    let d = λ (e : c.args.from ≡ c.args.to). true≢false (sym (port_self c.args.from) ∙ (ap ((eq-value).it c.args.from) e ∙ (sym c.eq.ensures ∙ c.if-eq.false))) in
    (λ t. absurd (true≢false (sym t)), λ w. absurd (none_from ls _ _ _ i c.args.from c.args.to d c.in_default.ensures.none w))

pub returns-in_default-number-clause-tells : goal.returns-in_default-number-clause-tells
returns-in_default-number-clause-tells c = λ ls i.
    let d = λ (e : c.args.from ≡ c.args.to). true≢false (sym (port_self c.args.from) ∙ (ap ((eq-value).it c.args.from) e ∙ (sym c.eq.ensures ∙ c.if-eq.false))) in
    (λ t. absurd (true≢false (sym t)), λ w. absurd (none_to ls _ _ _ i c.args.from c.args.to d c.in_default-number.ensures.none w))

pub returns-clause-tells : goal.returns-clause-tells
returns-clause-tells c = λ ls i.
    let g = c.args.graph in
    let R = HasStep (led_from g.words.now g.rows.now) in
    let a = c.in-Some.ensures.number in
    let b = c.in-Some-number.ensures.number in
    let r = by_numbers ls _ _ _ i c.args.from c.args.to a.1 b.1 in
    let told = c.in_ok-is_reached.ensures.reaches in
    let x = number_of c.args.begins.now c.args.from in
    let y = number_of c.args.begins.now c.args.to in (
      λ t. r.0 (subst (Walk R x) b.0 (subst (λ z. Walk R z c.in-Some-number.b) a.0 (told.0 t))),
      λ w. told.1 (subst (Walk R c.in-Some.a) (sym b.0) (subst (λ z. Walk R z y) (sym a.0) (r.1 w))),
    )
