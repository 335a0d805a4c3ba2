use Rattle.std.proofs.Common.{rules, tests}
use Rattle.std.proofs.lemmas.Iterator.{YieldsList-from_slice}
use Rattle.std.proofs.lemmas.Iterator.Search.{position_from_yields_List}
use Rattle.wf_form.specs.declared.fault.Spot.TheVariants.{Module}
use Rattle.wf_form.specs.declared.fault.FormFault.TheVariants.{NameBad}
use Rattle.wf_form.specs.Rules.{HasShortNames}
use Rattle.wf_spec.proofs.FirstFaults.{first_that_is_not}
use Rattle.wf_form.proofs.ShortNames.{is_short_part, short_part, part_short}
use Rattle.wf_form.proofs.checks.short.first_bad_names.Goals as goal

pub returns : goal.returns
returns c =
    first_that_is_not is_short_part HasShortNames (λ k. NameBad (Module k)) c.args.modules.now c.position.result (λ m i. short_part m) (λ m i. part_short m)
    (position_from_yields_List _ _ _ _ c.position.ensures.ran (YieldsList-from_slice c.args.modules.now cc) (λ x b q k. search (rules, tests)))
