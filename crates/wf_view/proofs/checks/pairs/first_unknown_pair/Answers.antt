use Rattle.std.proofs.Common.{rules, tests}
use Rattle.std.proofs.lemmas.Iterator.{YieldsList-from_slice}
use Rattle.std.proofs.lemmas.Iterator.Search.{position_from_yields_List}
use Rattle.wf_spec.specs.Pairs.{HasKnownPairs}
use Rattle.wf_view.specs.declared.fault.ViewFault.TheVariants.{UnknownPort}
use Rattle.wf_spec.proofs.FirstFaults.{first_that_is_not}
use Rattle.wf_view.proofs.Ports.{are_known, known_gives, known_from}
use Rattle.wf_view.proofs.checks.pairs.first_unknown_pair.Goals as goal

pub returns : goal.returns
returns c =
    let g = c.args.g.now.core in
    first_that_is_not (are_known g) (HasKnownPairs g.modules) UnknownPort c.args.deps.now c.position.result (λ d i. known_gives g d) (λ d i. known_from g d)
    (position_from_yields_List _ _ _ _ c.position.ensures.ran (YieldsList-from_slice c.args.deps.now cc) (λ x b q k. search (rules, tests)))
