use Rattle.std.proofs.Common.{sym, subst, ◌<◌}
use Rattle.wf_body.proofs.Feeding.{few_at}
use Rattle.wf_body.proofs.Ordering.{count_is}
use Rattle.wf_body.proofs.Rowing.{module_stands}
use Rattle.wf_body.proofs.standing.standing.Goals as goal

pub returns-clause-stands : goal.returns-clause-stands
returns-clause-stands c =
    let count = count_is c.args.g.now.core c.args.p.0 c.positions.result.now c.production.result.now.core c.positions.ensures c.production.ensures.core in
    module_stands c.args.g.now.core c.args.p.0 c.positions.result.now c.production.result.now.core c.args.k.0 c.index-positions-k.result c.positions.ensures c.production.ensures.core
    (subst (λ n. c.args.k.0 < n) (sym count) c.requires.position)

pub returns-clause-within : goal.returns-clause-within
returns-clause-within c =
    let count = count_is c.args.g.now.core c.args.p.0 c.positions.result.now c.production.result.now.core c.positions.ensures c.production.ensures.core in
    (few_at c.args.g.now.core c.args.p.0 _ c.args.k.0 c.production.ensures.formed c.requires.production
    (module_stands c.args.g.now.core c.args.p.0 c.positions.result.now c.production.result.now.core c.args.k.0 c.index-positions-k.result c.positions.ensures c.production.ensures.core
    (subst (λ n. c.args.k.0 < n) (sym count) c.requires.position))).1
