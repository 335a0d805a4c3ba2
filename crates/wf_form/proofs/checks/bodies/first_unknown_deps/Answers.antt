use Rattle.std.proofs.Common.{rules, tests}
use Rattle.std.proofs.lemmas.Iterator.{YieldsList-from_slice}
use Rattle.std.proofs.lemmas.Iterator.Search.{position_from_yields_List}
use Rattle.wf_model.specs.declared.parts.DepsPart.{DepsPart}
use Rattle.wf_model.specs.Faults.{is_one_of}
use Rattle.wf_model.specs.Lists.{IsIn}
use Rattle.wf_model.proofs.Lists.{among_gives, among_from}
use Rattle.wf_form.specs.declared.fault.Spot.TheVariants.{DepsAt}
use Rattle.wf_form.specs.declared.fault.FormFault.TheVariants.{UnknownModule}
use Rattle.wf_spec.proofs.FirstFaults.{first_that_is_not}
use Rattle.wf_form.proofs.checks.bodies.first_unknown_deps.Goals as goal

pub returns : goal.returns
returns c =
    let names = c.args.names.now in
    first_that_is_not (λ (d : DepsPart). is_one_of names d.module) (λ d. IsIn d.module names) (λ k. UnknownModule (DepsAt k)) c.args.deps.now c.position.result (λ d i. among_gives d.module names) (λ d i. among_from d.module names)
    (position_from_yields_List _ _ _ _ c.position.ensures.ran (YieldsList-from_slice c.args.deps.now cc) (λ x b q k. search (rules, tests)))
