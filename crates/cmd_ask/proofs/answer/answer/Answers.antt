use Rattle.std.proofs.Common.{◌≡◌, List, length, option_map, refl, sym, subst, ◌∙◌}
use Rattle.wf_model.specs.declared.event.Event.{Event}
use Rattle.wf_model.specs.Items.{Item, items}
use Rattle.wf_model.specs.Lists.{IsIn}
use Rattle.wf_spec.specs.Held.{HeldGrammar}
use Rattle.wf_flat.specs.Table.{events_of, names_in}
use Rattle.wf_flat.specs.declared.graph.Link.{Link as LinkHeld}
use Rattle.wf_flat.specs.Flat.{AreWithin, IsGraphOf}
use Rattle.wf_flat.specs.Item.{named_item}
use Rattle.wf_flat.specs.Graph.{named_links, named_port}
use Rattle.cmd_ask.specs.Prepared.{PreparedSeen, TellsPath}
use Rattle.cmd_ask.proofs.Answered.{first_unknown, second_unknown, first_hidden, second_hidden, path_answers}
use Rattle.cmd_ask.proofs.answer.answer.Goals as goal

-- items are those of the same grammar
item_of_same : {g h : HeldGrammar} → g ≡ h → (e : List Event) (i : Item) → IsIn i (items g.core g.core.start e) → IsIn i (items h.core h.core.start e)
item_of_same same e i = subst (λ (x : HeldGrammar). IsIn i (items x.core x.core.start e)) same

pub returns-in_default-clause-told : goal.returns-in_default-clause-told
returns-in_default-clause-told c =
    let p = c.p.inside in
    rw (← c.p.view_is)
    (first_unknown p.viewed.now.accepted.grammar.core p.viewed.now.view.core c.p.invariant.formed (events_of p.run.now) c.p.invariant.run.accepted.0 c.args.query.now.first.now c.args.query.now.second.now (λ t h. c.in_default.ensures.none refl t (item_of_same (sym c.grammar-g.ensures.grammar) _ t h)))

pub returns-in_default-find_item-clause-told : goal.returns-in_default-find_item-clause-told
returns-in_default-find_item-clause-told c =
    let p = c.p.inside in
    rw (← c.p.view_is)
    (second_unknown p.viewed.now.accepted.grammar.core p.viewed.now.view.core c.p.invariant.formed (events_of p.run.now) c.p.invariant.run.accepted.0 c.args.query.now.first.now c.args.query.now.second.now
    (named_item (names_in p.run.now.instances) c.args.query.now.first.now c.in-Some.a) (item_of_same c.grammar-g.ensures.grammar _ _ c.in-Some.ensures.found) refl (λ t h. c.in_default-find_item.ensures.none refl t (item_of_same (sym c.grammar-g.ensures.grammar) _ t h)))

pub returns-then-not-shows-clause-told : goal.returns-then-not-shows-clause-told
returns-then-not-shows-clause-told c =
    rw (← c.p.view_is)
    (first_hidden _ _ _ _ c.p.invariant c.args.query.now.first.now c.args.query.now.second.now c.in-Some.a c.in-Some-find_item.b (item_of_same c.grammar-g.ensures.grammar _ _ c.in-Some.ensures.found) (item_of_same c.grammar-g.ensures.grammar _ _ c.in-Some-find_item.ensures.found) c.in-Some.ensures.within c.in-Some-find_item.ensures.within
    (sym c.shows.ensures ∙ c.if-not-shows.true))

pub returns-then-not-shows-2-clause-told : goal.returns-then-not-shows-2-clause-told
returns-then-not-shows-2-clause-told c =
    rw (← c.p.view_is)
    (second_hidden _ _ _ _ c.p.invariant c.args.query.now.first.now c.args.query.now.second.now c.in-Some.a c.in-Some-find_item.b (item_of_same c.grammar-g.ensures.grammar _ _ c.in-Some.ensures.found) (item_of_same c.grammar-g.ensures.grammar _ _ c.in-Some-find_item.ensures.found) c.in-Some.ensures.within c.in-Some-find_item.ensures.within
    (sym c.shows.ensures ∙ c.if-not-shows.false) (sym c.shows-2.ensures ∙ c.if-not-shows-2.true))

pub returns-clause-told : goal.returns-clause-told
returns-clause-told c =
    let r = c.p.invariant in
    let told = subst (λ (q : PreparedSeen). (ls : List LinkHeld) → IsGraphOf ls q.flat → AreWithin (length q.run.instances) ls → TellsPath (named_links (names_in q.run.instances) ls) (option_map (named_port (names_in q.run.instances)) c.in-Some.a.to) (option_map (named_port (names_in q.run.instances)) c.in-Some-find_item.b.from) c.in_ok-told.told) (sym c.p.view_is) c.in_ok-told.ensures.path r.held r.graph r.within in
    rw (← c.p.view_is)
    (path_answers _ _ _ _ c.p.invariant c.args.query.now.first.now c.args.query.now.second.now c.in-Some.a c.in-Some-find_item.b (item_of_same c.grammar-g.ensures.grammar _ _ c.in-Some.ensures.found) (item_of_same c.grammar-g.ensures.grammar _ _ c.in-Some-find_item.ensures.found) c.in-Some.ensures.within c.in-Some-find_item.ensures.within
    (sym c.shows.ensures ∙ c.if-not-shows.false) (sym c.shows-2.ensures ∙ c.if-not-shows-2.false) c.in_ok-told.told told)
