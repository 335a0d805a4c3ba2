use Rattle.std.proofs.Common.{◌≤◌, ◌∙◌, ◌++◌, List, sym, ap, subst, length, get_or, flat_map, arith}
use Rattle.std.proofs.lemmas.List.{length-map, take_all}
use Rattle.wf_model.specs.Grammar.{Production, production_at}
use Rattle.wf_model.specs.Meaning.{edge_of}
use Rattle.wf_flat.specs.declared.table.Opened.{Opened}
use Rattle.wf_chain.specs.ItemLists.{root_held, edge_held, opened_held}
use Rattle.wf_chain.proofs.Counts.{count_read}
use Rattle.wf_chain.proofs.ReadLists.{read_in}
use Rattle.wf_chain.proofs.MadeItems.{production_there}
use Rattle.wf_chain.proofs.items.count_of.Goals as goal

pub production-requires : goal.production-requires
production-requires c =
    production_there c.args.g.now.core c.args.run.now c.requires c.start-formed.ensures.formed c.instances-instances.ensures.opened
    (get_or c.order-opened-items.result.now c.loop-opened.opened-index (record { instance = 0; production = record { 0 = 0 }; first = 0; count = 0 }))
    (read_in c.order-opened-items.result.now c.args.run.now.order c.loop-opened.opened-index (record { instance = 0; production = record { 0 = 0 }; first = 0; count = 0 }) c.order-opened-items.ensures c.loop-opened-test.true)

pub loop-opened-preserved : goal.loop-opened-preserved
loop-opened-preserved c =
    let g = c.args.g.now.core in
    let none : Opened = record { instance = 0; production = record { 0 = 0 }; first = 0; count = 0 } in
    let o = get_or c.order-opened-items.result.now c.loop-opened.opened-index none in
    let edges = ap length (c.edges.ensures ∙ ap (λ (r : Production). r.edges) c.production.ensures.core) in
    let here = sym (length-map c.edges.result.now edge_of) ∙ (edges ∙ sym (length-map (production_at g o.production.0).edges (edge_held o))) in (
      count_read (opened_held g) (root_held g c.args.run.now) c.order-opened-items.result.now c.args.run.now.order c.loop-opened.opened-index none c.loop-opened.count (length c.edges.result.now)
          c.order-opened-items.ensures c.loop-opened-test.true c.loop-opened.invariant.0 here,
      omega (arith, c.if-count.false),
    )

pub returns-clause-count : goal.returns-clause-count
returns-clause-count c =
    let g = c.args.g.now.core in
    let past = subst (λ (l : List Opened). length l ≤ c.loop-opened.opened-index) c.order-opened-items.ensures c.loop-opened-test.false in
    c.loop-opened.invariant.0 ∙ ap (λ l. length (root_held g c.args.run.now ++ flat_map (opened_held g) l)) (take_all c.loop-opened.opened-index c.args.run.now.order past)
