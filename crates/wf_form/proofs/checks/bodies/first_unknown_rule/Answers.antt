use Rattle.std.proofs.Common.{rules, tests}
use Rattle.std.proofs.lemmas.Iterator.{YieldsList-from_slice}
use Rattle.std.proofs.lemmas.Iterator.Search.{position_from_yields_List}
use Rattle.wf_form.specs.declared.fault.Spot.TheVariants.{Production}
use Rattle.wf_form.specs.declared.fault.FormFault.TheVariants.{UnknownModule}
use Rattle.wf_form.specs.Rules.{HasKnownModules}
use Rattle.wf_spec.proofs.FirstFaults.{first_that_is_not}
use Rattle.wf_form.proofs.KnownModules.{names_known, known_part, part_known}
use Rattle.wf_form.proofs.checks.bodies.first_unknown_rule.Goals as goal

pub returns : goal.returns
returns c =
    let names = c.args.names.now in
    first_that_is_not (names_known names) (HasKnownModules names) (λ k. UnknownModule (Production k)) c.args.productions.now c.position.result (λ p i. known_part names p) (λ p i. part_known names p)
    (position_from_yields_List _ _ _ _ c.position.ensures.ran (YieldsList-from_slice c.args.productions.now cc) (λ x b q k. search (rules, tests)))
