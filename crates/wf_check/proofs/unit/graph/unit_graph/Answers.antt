use Rattle.std.proofs.Common.{◌∙◌, ◌<◌, [], ◌∷◌, ◌++◌, ap, sym, subst, arith, length, get_or, set, take}
use Rattle.std.proofs.lemmas.List.{take_more, take_all, length-set}
use Rattle.wf_spec.proofs.Tables.{get_in}
use Rattle.wf_check.specs.UnitPaths.{IsGraphOf}
use Rattle.wf_check.proofs.UnitRules.{no_rule}
use Rattle.wf_check.proofs.UnitGraphs.{graph_none, graph_more}
use Rattle.wf_check.proofs.unit.graph.unit_graph.Goals as goal

pub loop-u-init : goal.loop-u-init
loop-u-init c = record {
  count = c.in_ok-graph.ensures.count;
  edges = graph_none c.in_ok-graph.graph.items c.in_ok-graph.ensures.none;
}

pub index_mut-list-requires : goal.index_mut-list-requires
index_mut-list-requires c =
    let below = (c.requires (get_or c.args.units.now c.loop-u.u-index no_rule) (get_in c.loop-u.u-index c.args.units.now no_rule c.loop-u-test.true)).0 in
    omega (arith, c.loop-u.graph.ok.0, c.loop-u.invariant.count)

pub loop-u-preserved : goal.loop-u-preserved
loop-u-preserved c =
    let us = c.args.units.now in
    let u = get_or us c.loop-u.u-index no_rule in
    let graph = c.loop-u.graph.items in
    let after = set graph u.head.0 c.push.new.self in
    let below = (c.requires u (get_in c.loop-u.u-index us no_rule c.loop-u-test.true)).0 in
    let within : u.head.0 < length graph = omega (arith, c.loop-u.invariant.count) in
    record {
      count = length-set graph u.head.0 c.push.new.self ∙ c.loop-u.invariant.count;
      edges = subst (λ xs. IsGraphOf xs after) (sym (take_more us c.loop-u.u-index no_rule c.loop-u-test.true))
          (graph_more (take c.loop-u.u-index us) u graph c.index_mut-list.result.now c.push.new.self within c.index_mut-list.ensures.value
          (c.in_ok-push.ensures.items ∙ ap (λ k. c.index_mut-list.result.now.items ++ k ∷ []) c.from.ensures) c.loop-u.invariant.edges);
    }

pub returns-clause-edges : goal.returns-clause-edges
returns-clause-edges c = subst (λ xs. IsGraphOf xs c.loop-u.graph.items) (take_all c.loop-u.u-index c.args.units.now c.loop-u-test.false) c.loop-u.invariant.edges
