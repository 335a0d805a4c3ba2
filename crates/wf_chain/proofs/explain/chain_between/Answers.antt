use Rattle.std.proofs.Common.{◌<◌, ◌∙◌, refl, sym, ap, subst}
use Rattle.wf_graph.specs.Routes.{IsRoute}
use Rattle.wf_chain.specs.ItemGraphs.{led_from, steps_held}
use Rattle.wf_model.proofs.Lists.{at_below}
use Rattle.wf_chain.proofs.Explaining.{in_items, rows_in_range, no_route, first_route}
use Rattle.wf_chain.proofs.explain.chain_between.Goals as goal

pub number_of-from-requires-clause-there : goal.number_of-from-requires-clause-there
number_of-from-requires-clause-there c =
    let g = c.args.graph.now in
    in_items g.run.now c.args.items.now g.consumed.now g.produced.now c.requires.graph c.args.first.now c.requires.first.held

pub number_of-to-requires-clause-there : goal.number_of-to-requires-clause-there
number_of-to-requires-clause-there c =
    let g = c.args.graph.now in
    in_items g.run.now c.args.items.now g.consumed.now g.produced.now c.requires.graph c.args.second.now c.requires.second.held

pub first_shortest-requires-clause-in_range : goal.first_shortest-requires-clause-in_range
first_shortest-requires-clause-in_range c =
    let g = c.args.graph.now in
    rows_in_range g.run.now c.args.items.now g.consumed.now g.produced.now c.requires.graph

pub first_shortest-requires-clause-from : goal.first_shortest-requires-clause-from
first_shortest-requires-clause-from c =
    subst (λ n. c.number_of-from.result < n) (sym c.requires.graph.consumers.count) (at_below c.args.first.now c.number_of-from.result c.args.items.now c.number_of-from.ensures)

pub first_shortest-requires-clause-to : goal.first_shortest-requires-clause-to
first_shortest-requires-clause-to c =
    subst (λ n. c.number_of-to.result < n) (sym c.requires.graph.consumers.count) (at_below c.args.second.now c.number_of-to.result c.args.items.now c.number_of-to.ensures)

pub returns-in_default : goal.returns-in_default
returns-in_default c =
    let g = c.args.graph.now in
    no_route g.run.now c.args.items.now g.consumed.now g.produced.now c.requires.graph c.args.first.now c.args.second.now c.number_of-from.result c.number_of-to.result
    c.number_of-from.ensures c.number_of-to.ensures c.requires.first.visible (rw c.in_default.is at c.in_ok-route.ensures)

pub steps_along-requires-clause-there : goal.steps_along-requires-clause-there
steps_along-requires-clause-there c = at_below c.args.first.now c.number_of-from.result c.args.items.now c.number_of-from.ensures

pub steps_along-requires-clause-route : goal.steps_along-requires-clause-route
steps_along-requires-clause-route c =
    let g = c.args.graph.now in
    let row = led_from g.run.now g.consumed.now g.produced.now in
    let f = rw c.in-Some.is at c.in_ok-route.ensures in
    (c.number_of-to.result, subst (λ ws. IsRoute row c.number_of-from.result ws c.number_of-to.result) (sym c.deref.ensures.value) f.route)

pub returns : goal.returns
returns c =
    let g = c.args.graph.now in
    first_route g.run.now c.args.items.now g.consumed.now g.produced.now c.requires.graph c.args.first.now c.args.second.now c.number_of-from.result c.number_of-to.result
    c.number_of-from.ensures c.number_of-to.ensures c.requires.first.visible c.in-Some.route.items (rw c.in-Some.is at c.in_ok-route.ensures)
    (record { first = c.args.first.now; steps = c.in_ok-steps.steps }) refl (c.in_ok-steps.ensures ∙ ap (steps_held c.args.items.now g.consumed.now c.number_of-from.result) c.deref.ensures.value)
