use Rattle.std.proofs.Common.{◌≡◌, take, map}
use Rattle.wf_model.specs.declared.numbers.ProdNo.{ProdNo}
use Rattle.wf_graph.proofs.Routes.{end_of}
use Rattle.wf_check.specs.UnitPaths.{AreFirstTurns}
use Rattle.wf_check.proofs.unit.turns.first_turns.Given as goal

abbrev pub invariant-loop-to : goal.invariant-loop-to
invariant-loop-to l = record {
  at : l.at ≡ end_of l.from (take l.to-index l.route);
  turns : AreFirstTurns l.units l.from (take l.to-index l.route) (map (λ (p : ProdNo). p.0) l.productions.items);
}
