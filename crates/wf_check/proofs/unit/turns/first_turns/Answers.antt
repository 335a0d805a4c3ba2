use Rattle.std.proofs.Common.{◌∙◌, ◌+◌, ◌++◌, ◌∷◌, [], ap, sym, subst, take, map, get_or}
use Rattle.std.proofs.lemmas.List.{take_more, map-append}
use Rattle.wf_model.specs.declared.numbers.ProdNo.{ProdNo}
use Rattle.wf_graph.proofs.Routes.{end_of, end_more}
use Rattle.wf_check.specs.UnitPaths.{targets_of, IsFirstTurn, AreFirstTurns}
use Rattle.wf_check.proofs.UnitRoutes.{route_step, target_turns, turns_more}
use Rattle.wf_check.proofs.unit.turns.first_turns.Goals as goal

pub first_turn-requires-clause-some : goal.first_turn-requires-clause-some
first_turn-requires-clause-some c =
    let us = c.args.units.now in
    let ws = c.args.route.now in
    let k = c.loop-to.to-index in
    target_turns us c.loop-to.at (get_or ws k 0) (rw (sym c.loop-to.invariant.at) at (route_step (targets_of us) c.args.from c.requires.route.0 ws k c.requires.route.1 c.loop-to-test.true))

pub loop-to-preserved : goal.loop-to-preserved
loop-to-preserved c =
    let us = c.args.units.now in
    let from = c.args.from in
    let ws = c.args.route.now in
    let k = c.loop-to.to-index in
    let w = get_or ws k 0 in
    let old = c.loop-to.productions.items in
    let p = c.first_turn.result in
    let ps = map (λ (x : ProdNo). x.0) in
    let longer = sym (take_more ws k 0 c.loop-to-test.true) in
    let turn = subst (λ v. IsFirstTurn us v w p.0) c.loop-to.invariant.at c.first_turn.ensures in
    let numbers = ap ps c.in_ok-push.ensures.items ∙ map-append (λ (x : ProdNo). x.0) old (p ∷ []) in
    record {
      at = sym (ap (end_of from) (sym longer) ∙ end_more from (take k ws) w);
      turns = subst (AreFirstTurns us from (take (k + 1) ws)) (sym numbers)
          (subst (λ vs. AreFirstTurns us from vs (ps old ++ p.0 ∷ [])) longer (turns_more us from (take k ws) (ps old) w p.0 c.loop-to.invariant.turns turn));
    }
