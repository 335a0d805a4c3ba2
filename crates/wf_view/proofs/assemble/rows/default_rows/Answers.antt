use Rattle.std.proofs.Common.{◌≤◌, true, length, sym, ◌∙◌, subst}
use Rattle.std.proofs.lemmas.Result.{IfOk-weaker}
use Rattle.wf_model.specs.Grammar.{Module, inputs_of, outputs_of, is_given}
use Rattle.wf_view.specs.Tables.{AreRowsBy}
use Rattle.wf_view.proofs.Naming.{module_is, module_formed}
use Rattle.wf_view.proofs.Pairing.{by_same, composite_all}
use Rattle.wf_view.proofs.assemble.rows.default_rows.Goals as goal

pub all_rows-requires : goal.all_rows-requires
all_rows-requires c =
    let g = c.args.g.now.core in
    subst (λ (k : Module). length k.outputs ≤ 64) (sym (module_is g c.modules.result.now c.args.m.0 c.index-modules-m.result c.modules.ensures.modules c.requires c.index-modules-m.is))
    (module_formed g c.modules.ensures.formed c.args.m.0 c.requires).few_outputs

pub returns-then-is_composite : goal.returns-then-is_composite
returns-then-is_composite c =
    let g = c.args.g.now.core in
    let m = c.args.m.0 in
    let one = c.index-modules-m.result in
    let is = module_is g c.modules.result.now m one c.modules.ensures.modules c.requires c.index-modules-m.is in
    IfOk-weaker c.all_rows.result _ _
    (λ rows h. by_same (inputs_of g m) (outputs_of g m) (λ i o. true) (is_given g.given m) rows.items (λ i o a b. sym (composite_all g c.modules.ensures.formed m (sym c.is_composite.ensures.test ∙ c.if-is_composite.true) i o))
    (subst (λ (k : Module). AreRowsBy (length k.inputs) (length k.outputs) (λ i o. true) rows.items) is h)) c.all_rows.ensures
