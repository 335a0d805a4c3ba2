use Rattle.std.proofs.Common.{◌<◌, ◌∙◌, sym, subst, ap, length, get_or}
use Rattle.wf_model.specs.declared.body.Position.{Position}
use Rattle.wf_form.proofs.Placing.{no_position, some_position, module_below, module_there, few_there}
use Rattle.wf_form.proofs.links.inner.place_in_body.Goals as goal

pub returns-in_default : goal.returns-in_default
returns-in_default c = no_position c.args.body.now c.args.name.now c.position_place.result c.position_place.ensures c.in_default.is

pub bounds-modules-body : goal.bounds-modules-body
bounds-modules-body c =
    let at = some_position c.args.body.now c.args.name.now c.position_place.result c.in-Some.number c.position_place.ensures c.in-Some.is in
    subst (λ (q : Position). q.module.0 < length c.args.modules.now) c.index-body-number.is
    (module_below c.args.modules.now c.args.body.now c.in-Some.number c.index-body-number.result c.requires.known at.1 c.index-body-number.is)

pub returns : goal.returns
returns c =
    let at = some_position c.args.body.now c.args.name.now c.position_place.result c.in-Some.number c.position_place.ensures c.in-Some.is in
    let below = module_below c.args.modules.now c.args.body.now c.in-Some.number c.index-body-number.result c.requires.known at.1 c.index-body-number.is in
    let is = c.index-modules-body.is ∙ ap (λ (q : Position). get_or c.args.modules.now q.module.0 c.index-modules-body.result) (sym c.index-body-number.is) in (
      at.0,
      at.1,
      module_there c.args.modules.now c.args.body.now c.in-Some.number c.index-body-number.result c.index-modules-body.result at.1 c.index-body-number.is below is,
      few_there c.args.modules.now c.index-body-number.result.module.0 c.index-modules-body.result c.requires.few_ports below is,
    )
