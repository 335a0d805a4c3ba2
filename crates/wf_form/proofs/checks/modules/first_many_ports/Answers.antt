use Rattle.std.proofs.Common.{◌≡◌, ◌≤◌, ◌||◌, true, false, length, nat_lt, rules, tests, arith}
use Rattle.std.proofs.lemmas.Bool.Decides.{nat_tests}
use Rattle.std.proofs.lemmas.Iterator.{YieldsList-from_slice}
use Rattle.std.proofs.lemmas.Iterator.Search.{position_from_yields_List}
use Rattle.wf_model.specs.declared.parts.ModulePart.{ModulePart}
use Rattle.wf_form.specs.declared.fault.FormFault.TheVariants.{TooManyPorts}
use Rattle.wf_form.specs.Rules.{HasFewPorts}
use Rattle.wf_spec.proofs.FirstFaults.{position_is_first}
use Rattle.wf_form.proofs.checks.modules.first_many_ports.Goals as goal

few : (m : ModulePart) → nat_lt 64 (length m.inputs) || nat_lt 64 (length m.outputs) ≡ false → HasFewPorts m
few m e = (grind (arith, nat_tests), grind (arith, nat_tests))

not_few : (m : ModulePart) → nat_lt 64 (length m.inputs) || nat_lt 64 (length m.outputs) ≡ true → ¬ HasFewPorts m
not_few m e h = let i : length m.inputs ≤ 64 = h.0 in let o : length m.outputs ≤ 64 = h.1 in grind (arith, nat_tests)

pub returns : goal.returns
returns c =
    position_is_first (λ (m : ModulePart). nat_lt 64 (length m.inputs) || nat_lt 64 (length m.outputs)) HasFewPorts TooManyPorts c.args.modules.now c.position.result (λ m i. few m) (λ m i. not_few m)
    (position_from_yields_List _ _ _ _ c.position.ensures.ran (YieldsList-from_slice c.args.modules.now cc) (λ x b q k. search (rules, tests)))
