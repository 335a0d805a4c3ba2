use Rattle.std.proofs.Common.{rules, tests}
use Rattle.std.proofs.lemmas.Iterator.{YieldsList-from_slice}
use Rattle.std.proofs.lemmas.Iterator.Search.{position_from_yields_List}
use Rattle.wf_view.specs.Rules.{number_in, IsCompositeName}
use Rattle.wf_model.specs.Composite.{is_composite}
use Rattle.wf_view.specs.declared.fault.ViewFault.TheVariants.{NotComposite}
use Rattle.wf_spec.proofs.FirstFaults.{first_that_is_not}
use Rattle.wf_view.proofs.checks.composite.first_atomic_name.Goals as goal

pub returns : goal.returns
returns c =
    let g = c.args.g.now.core in
    first_that_is_not (λ n. is_composite g (number_in g n)) (IsCompositeName g) NotComposite c.args.names.now c.position.result (λ n i h. h) (λ n i h. h)
    (position_from_yields_List _ _ _ _ c.position.ensures.ran (YieldsList-from_slice c.args.names.now cc) (λ x b q k. search (rules, tests)))
