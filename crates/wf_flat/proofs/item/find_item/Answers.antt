use Rattle.std.proofs.Common.{◌+◌, take, drop, refl, sym, subst, ◌∙◌}
use Rattle.std.specs.Prelude.{IfSome}
use Rattle.wf_model.specs.Lists.{IsIn}
use Rattle.wf_model.specs.Items.{items}
use Rattle.wf_flat.specs.Table.{names_in, events_of}
use Rattle.wf_flat.specs.Item.{named_item}
use Rattle.wf_flat.proofs.Dots.{split_at}
use Rattle.wf_flat.proofs.Named.{no_dot_named, no_instance_named, split_found}
use Rattle.wf_flat.proofs.NamedItems.{named_none, named_as}
use Rattle.wf_flat.proofs.item.find_item.Goals as goal

pub returns-in_default-clause-none : goal.returns-in_default-clause-none
returns-in_default-clause-none c = λ z i h e. no_dot_named c.args.g.now.core c.args.run.now i c.args.name.now c.requires c.start-formed.ensures.formed (sym c.in_default.ensures.place) h e

pub returns-in_default-find_near-clause-none : goal.returns-in_default-find_near-clause-none
returns-in_default-find_near-clause-none c =
    let name = c.args.name.now in
    let s = split_at name c.in-Some.dot (sym c.in-Some.ensures.place) in
    λ z i h e. no_instance_named c.args.g.now.core c.args.run.now i (take c.in-Some.dot name) (drop (c.in-Some.dot + 1) name) c.requires c.start-formed.ensures.formed (sym c.in_default-find_near.ensures.place) s.1 h (e ∙ s.0)

pub returns-clause-found : goal.returns-clause-found
returns-clause-found c =
    let t = c.args.run.now in
    let g = c.args.g.now.core in
    let e = split_found c.args.name.now (names_in t.instances) c.in-Some.dot c.in-Some-find_near.k (sym c.in-Some.ensures.place) (sym c.in-Some-find_near.ensures.place) in
    subst (λ n. IfSome c.item_at.result (λ i. IsIn (named_item (names_in t.instances) n i) (items g g.start (events_of t)))) e c.item_at.ensures.found

pub returns-clause-none : goal.returns-clause-none
returns-clause-none c =
    let t = c.args.run.now in
    let e = split_found c.args.name.now (names_in t.instances) c.in-Some.dot c.in-Some-find_near.k (sym c.in-Some.ensures.place) (sym c.in-Some-find_near.ensures.place) in
    λ z i h q. c.item_at.ensures.none z i h (q ∙ sym e)

pub returns-in_default-clause-named : goal.returns-in_default-clause-named
returns-in_default-clause-named c =
    named_none _ c.args.name.now (λ z h e. no_dot_named c.args.g.now.core c.args.run.now z c.args.name.now c.requires c.start-formed.ensures.formed (sym c.in_default.ensures.place) h e)

pub returns-in_default-find_near-clause-named : goal.returns-in_default-find_near-clause-named
returns-in_default-find_near-clause-named c =
    let name = c.args.name.now in
    let s = split_at name c.in-Some.dot (sym c.in-Some.ensures.place) in
    named_none _ name
    (λ z h e. no_instance_named c.args.g.now.core c.args.run.now z (take c.in-Some.dot name) (drop (c.in-Some.dot + 1) name) c.requires c.start-formed.ensures.formed (sym c.in_default-find_near.ensures.place) s.1 h (e ∙ s.0))

pub returns-clause-named : goal.returns-clause-named
returns-clause-named c =
    let t = c.args.run.now in
    let g = c.args.g.now.core in
    let e = split_found c.args.name.now (names_in t.instances) c.in-Some.dot c.in-Some-find_near.k (sym c.in-Some.ensures.place) (sym c.in-Some-find_near.ensures.place) in
    named_as g (events_of t) c.start-formed.ensures.formed c.requires.accepted.0 (named_item (names_in t.instances) c.args.name.now) c.args.name.now c.item_at.result (λ x. refl)
    (subst (λ n. IfSome c.item_at.result (λ i. IsIn (named_item (names_in t.instances) n i) (items g g.start (events_of t)))) e c.item_at.ensures.found)
    (λ none z h q. c.item_at.ensures.none none z h (q ∙ sym e))
