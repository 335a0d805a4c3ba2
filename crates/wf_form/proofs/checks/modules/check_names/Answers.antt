use Rattle.std.proofs.Common.{◌≡◌, ◌⊎◌, List, [], ◌∷◌, take, subst}
use Rattle.std.proofs.lemmas.Result.{on_ok_weaker, IfErr-weaker}
use Rattle.wf_model.specs.declared.parts.ModulePart.{ModulePart}
use Rattle.wf_model.specs.declared.parts.Parts.{Parts}
use Rattle.wf_model.specs.declared.parts.ProdPart.{ProdPart}
use Rattle.wf_form.specs.declared.fault.Spot.TheVariants.{Module, Production}
use Rattle.wf_form.specs.declared.fault.FormFault.{FormFault}
use Rattle.wf_form.specs.declared.fault.FormFault.TheVariants.{NameBad, NoMemory}
use Rattle.wf_spec.specs.FirstFaults.{each, AllHold, HoldsThroughout, IsFirstFault}
use Rattle.wf_form.specs.Rules.{new_names, first_rules, HasShortNames, HasShortPositions}
use Rattle.wf_spec.proofs.FirstFaults.{fault_of_rest}
use Rattle.wf_form.proofs.checks.modules.check_names.Goals as goal

-- the rules on short names, of the lists as they are read
short : (parts : Parts) (modules : List ModulePart) (productions : List ProdPart) → modules ≡ parts.modules → productions ≡ parts.productions → HoldsThroughout (each modules HasShortNames (λ k. NameBad (Module k)))
    → HoldsThroughout (each productions HasShortPositions (λ k. NameBad (Production k))) → AllHold (take 2 (first_rules parts))
short parts modules productions m p names positions = (
  subst (λ (l : List ModulePart). HoldsThroughout (each l HasShortNames (λ k. NameBad (Module k)))) m names,
  (subst (λ (l : List ProdPart). HoldsThroughout (each l HasShortPositions (λ k. NameBad (Production k)))) p positions, tt),
)

pub returns-clause-kept : goal.returns-clause-kept
returns-clause-kept c =
    let h = short c.args.parts.now c.items-modules.result.now c.items-productions.result.now c.items-modules.ensures c.items-productions.ensures c.in_default.ensures (c.in_default-first_bad_positions).ensures in
    on_ok_weaker c.numbered_names.result (λ n. (h.0, (h.1.0, (subst (λ (l : List ModulePart). HoldsThroughout (new_names l)) c.items-modules.ensures n, tt)))) c.numbered_names.ensures.kept

pub returns-clause-refused : goal.returns-clause-refused
returns-clause-refused c =
    let h = short c.args.parts.now c.items-modules.result.now c.items-productions.result.now c.items-modules.ensures c.items-productions.ensures c.in_default.ensures (c.in_default-first_bad_positions).ensures in
    IfErr-weaker c.numbered_names.result (λ (f : FormFault). (f ≡ NoMemory) ⊎ IsFirstFault (new_names c.items-modules.result.now ∷ []) f) _
    (λ f n. fault_of_rest 2 (take 3 (first_rules c.args.parts.now)) f h (subst (λ (l : List ModulePart). (f ≡ NoMemory) ⊎ IsFirstFault (new_names l ∷ []) f) c.items-modules.ensures n)) c.numbered_names.ensures.refused
