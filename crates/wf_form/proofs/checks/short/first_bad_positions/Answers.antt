use Rattle.std.proofs.Common.{rules, tests}
use Rattle.std.proofs.lemmas.Iterator.{YieldsList-from_slice}
use Rattle.std.proofs.lemmas.Iterator.Search.{position_from_yields_List}
use Rattle.wf_form.specs.declared.fault.Spot.TheVariants.{Production}
use Rattle.wf_form.specs.declared.fault.FormFault.TheVariants.{NameBad}
use Rattle.wf_form.specs.Rules.{HasShortPositions}
use Rattle.wf_spec.proofs.FirstFaults.{first_that_is_not}
use Rattle.wf_form.proofs.ShortNames.{has_short_body, short_body, body_short}
use Rattle.wf_form.proofs.checks.short.first_bad_positions.Goals as goal

pub returns : goal.returns
returns c =
    first_that_is_not has_short_body HasShortPositions (λ k. NameBad (Production k)) c.args.productions.now c.position.result (λ p i. short_body p) (λ p i. body_short p)
    (position_from_yields_List _ _ _ _ c.position.ensures.ran (YieldsList-from_slice c.args.productions.now cc) (λ x b q k. search (rules, tests)))
