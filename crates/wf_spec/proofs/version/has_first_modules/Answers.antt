use Rattle.std.proofs.Common.{◌<◌, ◌∙◌, nat_lt, rules, tests, arith}
use Rattle.std.proofs.lemmas.Iterator.{YieldsList-from_slice}
use Rattle.std.proofs.lemmas.Iterator.Search.{all_from_yields_List}
use Rattle.wf_model.specs.declared.body.Position.{Position}
use Rattle.wf_spec.proofs.Versions.{first_tested}
use Rattle.wf_spec.proofs.version.has_first_modules.Goals as goal

pub returns-then-from-modules : goal.returns-then-from-modules
returns-then-from-modules c =
    let m = c.args.modules in
    let below : c.args.rule.now.core.head < m = omega (arith, c.head.ensures, c.from.ensures) in
    all_from_yields_List (λ (q : Position). nat_lt q.module.0 m) _ _ c.all.result c.all.ensures.ran (YieldsList-from_slice c.positions.result.now cc) (λ x b q k. search (rules, tests))
    ∙ first_tested m c.args.rule.now.core c.positions.result.now below c.positions.ensures
