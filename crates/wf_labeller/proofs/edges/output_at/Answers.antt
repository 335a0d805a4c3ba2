use Rattle.std.proofs.Common.{◌<◌, length, List, sym, subst, ◌∙◌}
use Rattle.wf_model.specs.Meaning.{inner_of}
use Rattle.wf_labeller.proofs.Outputs.{body_read, length_read, position_below, module_there, module_read, port_below, name_read}
use Rattle.wf_labeller.proofs.edges.output_at.Goals as goal

pub bounds-positions-from : goal.bounds-positions-from
bounds-positions-from c =
    let g = c.args.g.now.core in
    let p = c.args.production.0 in
    let body = body_read g p _ _ c.production.ensures.core c.positions.ensures in
    subst (λ n. c.args.from.pos.0 < n) (sym (length_read g p _ body)) (position_below g p (inner_of c.args.from) c.requires.from)

pub bounds-modules-position : goal.bounds-modules-position
bounds-modules-position c =
    let g = c.args.g.now.core in
    let p = c.args.production.0 in
    let o = c.requires.from in
    let body = body_read g p _ _ c.production.ensures.core c.positions.ensures in
    let m = module_read g p (inner_of c.args.from) o _ _ body c.index-positions-from.is in
    subst (λ n. n < length c.modules.result.now) (sym m) (subst (λ (l : List _). o.0 < length l) (sym c.modules.ensures.modules) (module_there g p (inner_of c.args.from) o c.modules.ensures.formed c.requires.production))

pub bounds-outputs-from : goal.bounds-outputs-from
bounds-outputs-from c =
    let g = c.args.g.now.core in
    let p = c.args.production.0 in
    let o = c.requires.from in
    let body = body_read g p _ _ c.production.ensures.core c.positions.ensures in
    let there = module_there g p (inner_of c.args.from) o c.modules.ensures.formed c.requires.production in
    let m = module_read g p (inner_of c.args.from) o _ _ body c.index-positions-from.is in
    port_below g p (inner_of c.args.from) o _ _ _ m there c.modules.ensures.modules c.index-modules-position.is _ c.outputs-outputs.ensures

pub returns : goal.returns
returns c =
    let g = c.args.g.now.core in
    let p = c.args.production.0 in
    let o = c.requires.from in
    let body = body_read g p _ _ c.production.ensures.core c.positions.ensures in
    let there = module_there g p (inner_of c.args.from) o c.modules.ensures.formed c.requires.production in
    let m = module_read g p (inner_of c.args.from) o _ _ body c.index-positions-from.is in
    c.bytes.ensures ∙ name_read g p (inner_of c.args.from) o _ _ _ m there c.modules.ensures.modules c.index-modules-position.is _ _ c.outputs-outputs.ensures c.index-outputs-from.is
