use Rattle.std.proofs.Common.{ap}
use Rattle.wf_model.specs.Grammar.{Production}
use Rattle.wf_json.proofs.Places.{read_below, read_module}
use Rattle.wf_json.proofs.writing.port.place.Goals as goal

pub bounds-modules-position : goal.bounds-modules-position
bounds-modules-position c =
    read_below c.args.g.now.core c.args.p.0 c.args.k _ _ c.index-positions-k.result _ c.modules.ensures.formed c.requires.production c.positions.ensures (ap (λ (r : Production). r.positions) c.production.ensures.core)
    c.index-positions-k.is c.requires.position c.modules.ensures.modules

pub returns-clause-stands : goal.returns-clause-stands
returns-clause-stands c =
    read_module c.args.g.now.core c.args.p.0 c.args.k _ _ c.index-positions-k.result _ c.index-modules-position.result c.modules.ensures.formed c.requires.production c.positions.ensures
    (ap (λ (r : Production). r.positions) c.production.ensures.core) c.index-positions-k.is c.requires.position c.modules.ensures.modules c.index-modules-position.is
