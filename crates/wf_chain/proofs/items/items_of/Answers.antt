use Rattle.std.proofs.Common.{◌≡◌, ◌<◌, ◌≤◌, ◌^◌, ◌∙◌, ◌++◌, List, [], ◌∷◌, refl, sym, ap, subst, length, get_or, map, flat_map, take, append_assoc, arith}
use Rattle.std.proofs.lemmas.List.{take_all}
use Rattle.wf_model.specs.declared.body.Edge.{Edge as EdgeHeld}
use Rattle.wf_model.specs.Lists.{IsIn}
use Rattle.wf_model.specs.Grammar.{Production}
use Rattle.wf_model.specs.Meaning.{edge_of}
use Rattle.wf_model.proofs.Lists.{in_map}
use Rattle.wf_flat.specs.declared.table.Inst.{Inst}
use Rattle.wf_flat.specs.declared.table.Opened.{Opened}
use Rattle.wf_chain.specs.ItemLists.{root_held, edge_held, opened_held}
use Rattle.wf_chain.proofs.ReadLists.{read_in, flat_map_read}
use Rattle.wf_chain.proofs.MadeItems.{production_there, from_there, to_there, are_items}
use Rattle.wf_chain.proofs.items.items_of.Goals as goal

-- the items of edges, by the edges that are held
held_edges : (o : Opened) (es : List EdgeHeld) → map (λ e. edge_held o (edge_of e)) es ≡ map (edge_held o) (map edge_of es)
held_edges o [] = refl
held_edges o (e ∷ es) = ap (λ l. edge_held o (edge_of e) ∷ l) (held_edges o es)

pub production-requires : goal.production-requires
production-requires c =
    production_there c.args.g.now.core c.args.run.now c.requires c.start-formed.ensures.formed c.instances-instances.ensures.opened
    (get_or c.order-opened-items.result.now c.loop-opened.opened-index (record { instance = 0; production = record { 0 = 0 }; first = 0; count = 0 }))
    (read_in c.order-opened-items.result.now c.args.run.now.order c.loop-opened.opened-index (record { instance = 0; production = record { 0 = 0 }; first = 0; count = 0 }) c.order-opened-items.ensures c.loop-opened-test.true)

pub add_edges-requires-clause-from : goal.add_edges-requires-clause-from
add_edges-requires-clause-from c = λ e h.
    let there = read_in c.order-opened-items.result.now c.args.run.now.order c.loop-opened.opened-index (record { instance = 0; production = record { 0 = 0 }; first = 0; count = 0 }) c.order-opened-items.ensures c.loop-opened-test.true in
    let in_core = subst (IsIn (edge_of e)) (c.edges.ensures ∙ ap (λ (r : Production). r.edges) c.production.ensures.core) (in_map edge_of e c.edges.result.now h) in
    let low = from_there c.args.g.now.core c.args.run.now c.requires c.start-formed.ensures.formed c.instances-instances.ensures.opened (get_or c.order-opened-items.result.now c.loop-opened.opened-index (record { instance = 0; production = record { 0 = 0 }; first = 0; count = 0 })) there (edge_of e) in_core in
    let small = subst (λ (l : List Inst). length l < 2 ^ 32) c.instances-instances.ensures.instances c.instances-instances.ensures.small in
    omega arith

pub add_edges-requires-clause-to : goal.add_edges-requires-clause-to
add_edges-requires-clause-to c = λ e h.
    let there = read_in c.order-opened-items.result.now c.args.run.now.order c.loop-opened.opened-index (record { instance = 0; production = record { 0 = 0 }; first = 0; count = 0 }) c.order-opened-items.ensures c.loop-opened-test.true in
    let in_core = subst (IsIn (edge_of e)) (c.edges.ensures ∙ ap (λ (r : Production). r.edges) c.production.ensures.core) (in_map edge_of e c.edges.result.now h) in
    let low = to_there c.args.g.now.core c.args.run.now c.requires c.start-formed.ensures.formed c.instances-instances.ensures.opened (get_or c.order-opened-items.result.now c.loop-opened.opened-index (record { instance = 0; production = record { 0 = 0 }; first = 0; count = 0 })) there (edge_of e) in_core in
    let small = subst (λ (l : List Inst). length l < 2 ^ 32) c.instances-instances.ensures.instances c.instances-instances.ensures.small in
    omega arith

pub loop-opened-preserved : goal.loop-opened-preserved
loop-opened-preserved c =
    let g = c.args.g.now.core in
    let o = get_or c.order-opened-items.result.now c.loop-opened.opened-index (record { instance = 0; production = record { 0 = 0 }; first = 0; count = 0 }) in
    let edges = held_edges o c.edges.result.now ∙ ap (map (edge_held o)) (c.edges.ensures ∙ ap (λ (r : Production). r.edges) c.production.ensures.core) in
    let done = flat_map (opened_held g) (take c.loop-opened.opened-index c.args.run.now.order) in
    c.in_ok-add_edges.ensures ∙ ((λ z. c.loop-opened.invariant z ++ edges z)
    ∙ (append_assoc (root_held g c.args.run.now) done (opened_held g o)
    ∙ ap (λ l. root_held g c.args.run.now ++ l) (sym (flat_map_read c.order-opened-items.result.now c.args.run.now.order c.loop-opened.opened-index (record { instance = 0; production = record { 0 = 0 }; first = 0; count = 0 }) c.order-opened-items.ensures c.loop-opened-test.true (opened_held g)))))

pub returns-clause-items : goal.returns-clause-items
returns-clause-items c =
    let g = c.args.g.now.core in
    let past = subst (λ (l : List Opened). length l ≤ c.loop-opened.opened-index) c.order-opened-items.ensures c.loop-opened-test.false in
    are_items g c.args.run.now c.requires c.start-formed.ensures.formed c.instances-instances.ensures.opened c.loop-opened.items.items
    (c.loop-opened.invariant ∙ ap (λ l. root_held g c.args.run.now ++ flat_map (opened_held g) l) (take_all c.loop-opened.opened-index c.args.run.now.order past))
