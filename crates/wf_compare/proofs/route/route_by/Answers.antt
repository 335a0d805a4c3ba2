use Rattle.std.proofs.Common.{sym, subst, ◌∙◌, MatchOption}
use Rattle.wf_graph.specs.Routes.{IsRoute, IsFirstShortest}
use Rattle.wf_view.proofs.KnownViews.{held}
use Rattle.wf_compare.specs.Steps.{row_of, targets_in, AreFirstSteps}
use Rattle.wf_compare.proofs.RouteTold.{Searched, rows_fit, start_there, end_there, must_be, route_told, few_told}
use Rattle.wf_compare.proofs.route.route_by.Goals as goal

pub first_shortest-requires-clause-in_range : goal.first_shortest-requires-clause-in_range
first_shortest-requires-clause-in_range c =
    let g = c.args.v.grammar.now.core in
    let v = c.args.v.view.now in
    rows_fit g v.core c.args.rows.now c.start-start.ensures.formed (held g v c.args.v.held).is_view c.requires.rows

pub first_shortest-requires-clause-from : goal.first_shortest-requires-clause-from
first_shortest-requires-clause-from c =
    let g = c.args.v.grammar.now.core in
    let v = c.args.v.view.now in
    start_there g v.core c.args.rows.now c.start-start.ensures.formed (held g v c.args.v.held).is_view c.requires.rows c.from-from.result (c.from-from.ensures ∙ c.start-start.ensures.start)

pub first_shortest-requires-clause-to : goal.first_shortest-requires-clause-to
first_shortest-requires-clause-to c =
    let g = c.args.v.grammar.now.core in
    let v = c.args.v.view.now in
    end_there g v.core c.args.rows.now c.start-start.ensures.formed (held g v c.args.v.held).is_view c.requires.rows c.args.to.0 c.requires.seen c.from-end.result c.from-end.ensures

pub unreachable-requires : goal.unreachable-requires
unreachable-requires c =
    let g = c.args.v.grammar.now.core in
    let v = c.args.v.view.now in
    must_be g v.core c.args.rows.now c.start-start.ensures.formed (held g v c.args.v.held).is_view c.requires.rows c.args.to.0 c.from-from.result c.from-end.result c.requires.seen c.requires.other
    (c.from-from.ensures ∙ c.start-start.ensures.start) c.from-end.ensures (subst (λ o. MatchOption o (Searched c.args.rows.now c.from-from.result c.from-end.result) (λ r. IsFirstShortest (targets_in c.args.rows.now) c.from-from.result c.from-end.result r.items)) c.in_default.is c.in_ok-route.ensures)

pub first_steps-requires : goal.first_steps-requires
first_steps-requires c =
    let told = subst (λ o. MatchOption o (Searched c.args.rows.now c.from-from.result c.from-end.result) (λ r. IsFirstShortest (targets_in c.args.rows.now) c.from-from.result c.from-end.result r.items)) c.in-Some.is c.in_ok-route.ensures in
    record { route = (c.from-end.result, subst (λ l. IsRoute (targets_in c.args.rows.now) c.from-from.result l c.from-end.result) (sym c.deref.ensures.value) told.route) }

pub returns-clause-route : goal.returns-clause-route
returns-clause-route c =
    let g = c.args.v.grammar.now.core in
    let v = c.args.v.view.now in
    let told = subst (λ o. MatchOption o (Searched c.args.rows.now c.from-from.result c.from-end.result) (λ r. IsFirstShortest (targets_in c.args.rows.now) c.from-from.result c.from-end.result r.items)) c.in-Some.is c.in_ok-route.ensures in
    route_told g v.core c.args.rows.now c.start-start.ensures.formed (held g v c.args.v.held).is_view c.requires.rows c.args.to.0 c.from-from.result c.from-end.result c.in-Some.route.items c.in_ok-steps.steps.items c.requires.other
    (c.from-from.ensures ∙ c.start-start.ensures.start) c.from-end.ensures told (subst (λ l. AreFirstSteps (row_of c.args.rows.now) c.from-from.result l c.in_ok-steps.steps.items) c.deref.ensures.value c.in_ok-steps.ensures)

pub returns-clause-few : goal.returns-clause-few
returns-clause-few c =
    let g = c.args.v.grammar.now.core in
    let v = c.args.v.view.now in
    few_told g v.core c.args.rows.now c.start-start.ensures.formed (held g v c.args.v.held).is_view c.requires.rows c.args.to.0 c.in_ok-steps.steps.items c.requires.seen (returns-clause-route c)
