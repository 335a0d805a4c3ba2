use Rattle.std.proofs.Common.{◌≡◌, ◌<◌, ◌≤◌, ◌∙◌, ℕ, List, ap, sym, subst, ⊎_elim, length, map, arith}
use Rattle.std.proofs.lemmas.Bool.{cases_eq}
use Rattle.wf_model.specs.declared.numbers.ProdNo.{ProdNo}
use Rattle.wf_graph.specs.Graph.{nexts, InRange}
use Rattle.wf_graph.specs.Routes.{IsRoute, IsFirstShortest}
use Rattle.wf_graph.proofs.Routes.{route_alike, first_alike}
use Rattle.wf_check.specs.Improper.{IsToldCycle}
use Rattle.wf_check.specs.UnitRules.{unit_rules_of, AreBelow, AreInOrder}
use Rattle.wf_check.specs.UnitPaths.{targets_of, IsGraphOf, IsOnCycle, AreFirstTurns}
use Rattle.wf_check.proofs.UnitRoutes.{graph_in_range, leads_route}
use Rattle.wf_check.proofs.UnitTold.{rules_in_order, rules_below, none_told, is_told, on_cycle_below}
use Rattle.wf_check.proofs.unit.unit_cycle.Goals as goal

pub unit_graph-requires : goal.unit_graph-requires
unit_graph-requires c =
    let g = c.args.g.now.core in
    subst (AreBelow c.from.result) (sym (c.deref.ensures.value ∙ c.in_ok-units.ensures))
    (subst (λ n. AreBelow n (unit_rules_of g)) (sym (c.from.ensures ∙ ap length c.modules.ensures.modules)) (rules_below g c.modules.ensures.formed))

pub first_shortest-requires-clause-in_range : goal.first_shortest-requires-clause-in_range
first_shortest-requires-clause-in_range c =
    let g = c.args.g.now.core in
    let us = unit_rules_of g in
    let rows = c.in_ok-rows.rows.items in
    let edges = subst (λ xs. IsGraphOf xs rows) (c.deref.ensures.value ∙ c.in_ok-units.ensures) c.in_ok-rows.ensures.edges in
    let count = c.in_ok-rows.ensures.count ∙ c.from.ensures ∙ ap length c.modules.ensures.modules in
    subst InRange (sym c.deref-2.ensures.value) (graph_in_range (length g.modules) us rows (rules_below g c.modules.ensures.formed) edges count)

pub first_turns-requires-clause-order : goal.first_turns-requires-clause-order
first_turns-requires-clause-order c = subst AreInOrder (sym (c.deref-in-Some.ensures.value ∙ c.in_ok-units.ensures)) (rules_in_order c.args.g.now.core)

pub first_turns-requires-clause-route : goal.first_turns-requires-clause-route
first_turns-requires-clause-route c =
    let us = unit_rules_of c.args.g.now.core in
    let rows = c.in_ok-rows.rows.items in
    let m = c.from-from.result in
    let ws = c.in-Some.route.items in
    let edges = subst (λ xs. IsGraphOf xs rows) (c.deref.ensures.value ∙ c.in_ok-units.ensures) c.in_ok-rows.ensures.edges in
    let route = subst (λ xs. IsFirstShortest (nexts xs) m m ws) c.deref-2.ensures.value (rw c.in-Some.is at c.in_ok-route.ensures) in (
      m,
      subst (λ xs. IsRoute (targets_of xs) m c.deref-in-Some-2.result.now m) (sym (c.deref-in-Some.ensures.value ∙ c.in_ok-units.ensures))
          (subst (λ vs. IsRoute (targets_of us) m vs m) (sym c.deref-in-Some-2.ensures.value) (route_alike (nexts rows) (targets_of us) edges m m ws route.route)),
    )

pub returns-in-Some : goal.returns-in-Some
returns-in-Some c =
    let g = c.args.g.now.core in
    let us = unit_rules_of g in
    let rows = c.in_ok-rows.rows.items in
    let m = c.from-from.result in
    let ws = c.in-Some.route.items in
    let ps = map (λ (p : ProdNo). p.0) c.in_ok-productions.productions.items in
    let edges = subst (λ xs. IsGraphOf xs rows) (c.deref.ensures.value ∙ c.in_ok-units.ensures) c.in_ok-rows.ensures.edges in
    let route = subst (λ xs. IsFirstShortest (nexts xs) m m ws) c.deref-2.ensures.value (rw c.in-Some.is at c.in_ok-route.ensures) in
    let turns = subst (λ xs. AreFirstTurns xs m ws ps) (c.deref-in-Some.ensures.value ∙ c.in_ok-units.ensures)
    (subst (λ vs. AreFirstTurns c.deref-in-Some.result.now m vs ps) c.deref-in-Some-2.ensures.value c.in_ok-productions.ensures) in
    let least = subst (λ n. (k : ℕ) → k < n → IsOnCycle us k → ⊥) (sym c.from-from.ensures) c.loop-m.invariant in
    subst (λ xs. IsToldCycle g (map (λ (p : ProdNo). p.0) xs)) (sym c.from_vec.ensures) (is_told g m ws ps least (first_alike (nexts rows) (targets_of us) edges m m ws route) turns)

pub loop-m-preserved : goal.loop-m-preserved
loop-m-preserved c = λ k l cycle.
    let us = unit_rules_of c.args.g.now.core in
    let rows = c.in_ok-rows.rows.items in
    let m = c.from-from.result in
    let edges = subst (λ xs. IsGraphOf xs rows) (c.deref.ensures.value ∙ c.in_ok-units.ensures) c.in_ok-rows.ensures.edges in
    let none = subst (λ xs. (ws : List ℕ) → 0 < length ws → IsRoute (nexts xs) m ws m → ⊥) c.deref-2.ensures.value (rw c.in_default.is at c.in_ok-route.ensures) in
    ⊎_elim
    (λ (e : k ≡ c.loop-m.m).
    let here = subst (IsOnCycle us) (e ∙ sym c.from-from.ensures) cycle in
    let r = leads_route us m here.0 m here.2 in
    none r.0 (subst (λ n. 0 < n) (sym r.1) here.1) (route_alike (targets_of us) (nexts rows) (λ v. sym (edges v)) m m r.0 r.2))
    (λ d. let less : k < c.loop-m.m = omega (arith, d) in c.loop-m.invariant k less cycle)
    (cases_eq k c.loop-m.m)

pub returns : goal.returns
returns c =
    let g = c.args.g.now.core in
    let us = unit_rules_of g in
    none_told g (λ m cycle.
    let below = on_cycle_below us (length g.modules) m (rules_below g c.modules.ensures.formed) cycle in
    let all = subst (λ n. n ≤ c.loop-m.m) (ap length c.modules.ensures.modules) c.loop-m-test.false in
    let less : m < c.loop-m.m = omega arith in
    c.loop-m.invariant m less cycle)
