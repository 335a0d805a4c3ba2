use Rattle.std.proofs.Common.{rules, tests, arith, ◌≤◌, length, nat_lt}
use Rattle.std.proofs.lemmas.Bool.Decides.{nat_tests}
use Rattle.std.proofs.lemmas.Iterator.{YieldsList-from_slice}
use Rattle.std.proofs.lemmas.Iterator.Search.{position_from_yields_List}
use Rattle.wf_model.specs.declared.parts.ProdPart.{ProdPart}
use Rattle.wf_form.specs.declared.fault.FormFault.TheVariants.{BodyTooLong}
use Rattle.wf_spec.proofs.FirstFaults.{position_is_first}
use Rattle.wf_form.proofs.checks.sizes.first_long_body.Goals as goal

pub returns : goal.returns
returns c =
    position_is_first (λ (p : ProdPart). nat_lt 64 (length p.body)) (λ p. length p.body ≤ 64) BodyTooLong c.args.productions.now c.position.result (λ p i e. grind (arith, nat_tests)) (λ p i e h. grind (arith, nat_tests))
    (position_from_yields_List _ _ _ _ c.position.ensures.ran (YieldsList-from_slice c.args.productions.now cc) (λ x b q k. search (rules, tests)))
