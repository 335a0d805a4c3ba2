use Rattle.std.proofs.Common.{rules, tests}
use Rattle.std.proofs.lemmas.Iterator.{YieldsList-from_slice}
use Rattle.std.proofs.lemmas.Iterator.Search.{position_from_yields_List}
use Rattle.wf_model.specs.declared.parts.DepsPart.{DepsPart}
use Rattle.wf_model.specs.Faults.{is_one_of}
use Rattle.wf_model.proofs.Lists.{among_gives, among_from}
use Rattle.wf_spec.specs.Naming.{names_of}
use Rattle.wf_view.specs.Rules.{IsModuleName}
use Rattle.wf_view.specs.declared.fault.ViewSpot.TheVariants.{DepsAt}
use Rattle.wf_view.specs.declared.fault.ViewFault.TheVariants.{UnknownModule}
use Rattle.wf_spec.proofs.FirstFaults.{first_that_is_not}
use Rattle.wf_view.proofs.checks.known.first_unknown_part.Goals as goal

pub returns : goal.returns
returns c =
    let known = names_of c.args.g.now.core.modules in
    first_that_is_not (λ (d : DepsPart). is_one_of known d.«module») (λ d. IsModuleName c.args.g.now.core d.«module») (λ k. UnknownModule (DepsAt k)) c.args.deps.now c.position.result (λ d i. among_gives d.«module» known) (λ d i. among_from d.«module» known)
    (position_from_yields_List _ _ _ _ c.position.ensures.ran (YieldsList-from_slice c.args.deps.now cc) (λ x b q k. search (rules, tests)))
