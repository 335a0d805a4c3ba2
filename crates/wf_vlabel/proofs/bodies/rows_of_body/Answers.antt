use Rattle.std.proofs.Common.{ap, length, List, arith}
use Rattle.wf_model.specs.Grammar.{Module}
use Rattle.wf_body.proofs.Feeding.{few_at}
use Rattle.wf_body.proofs.Rowing.{module_stands}
use Rattle.wf_vlabel.proofs.bodies.rows_of_body.Goals as goal

pub bounds-modules-module : goal.bounds-modules-module
bounds-modules-module c =
    let stands = module_stands c.args.g.now.core c.args.p.0 c.positions-positions.result.now c.production-production.result.now.core c.loop-k.k c.index-positions-k.result c.positions-positions.ensures c.production-production.ensures.core c.loop-k-test.true in
    let there = (few_at c.args.g.now.core c.args.p.0 _ c.loop-k.k c.modules-modules.ensures.formed c.requires stands).1 in
    let same = ap (λ (ms : List Module). length ms) c.modules-modules.ensures.modules in
    omega (arith, there, same)
