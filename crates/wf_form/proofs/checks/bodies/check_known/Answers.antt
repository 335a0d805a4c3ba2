use Rattle.std.proofs.Common.{◌≡◌, ℕ, List, [], ◌∷◌, take, refl, sym, subst, ◌∙◌, inl, inr}
use Rattle.wf_model.specs.declared.parts.DepsPart.{DepsPart}
use Rattle.wf_model.specs.declared.parts.Parts.{Parts}
use Rattle.wf_model.specs.declared.parts.ProdPart.{ProdPart}
use Rattle.wf_model.specs.Lists.{IsIn}
use Rattle.wf_model.proofs.Lists.{among_gives, among_not}
use Rattle.wf_form.specs.declared.fault.Spot.TheVariants.{Start, Production, DepsAt}
use Rattle.wf_form.specs.declared.fault.FormFault.{FormFault}
use Rattle.wf_form.specs.declared.fault.FormFault.TheVariants.{UnknownModule}
use Rattle.wf_spec.specs.FirstFaults.{Rule, each, once, AllHold, IsFirstFault}
use Rattle.wf_form.specs.Rules.{body_rules, module_names, HasKnownModules}
use Rattle.wf_spec.proofs.FirstFaults.{once_fails}
use Rattle.wf_form.proofs.checks.bodies.check_known.Goals as goal

-- the rules of names and lists as they are read
abbrev rules_of : List (List ℕ) → List ℕ → List ProdPart → List DepsPart → List (Rule FormFault)
rules_of names start productions deps =
    once (IsIn start names) (UnknownModule Start) ∷
    each productions (HasKnownModules names) (λ k. UnknownModule (Production k)) ∷
    each deps (λ d. IsIn d.module names) (λ k. UnknownModule (DepsAt k)) ∷ []

at_parts : (P : List (Rule FormFault) → Type 0) (parts : Parts) (names : List (List ℕ)) (start : List ℕ) (productions : List ProdPart) (deps : List DepsPart)
    → names ≡ module_names parts.modules → start ≡ parts.start → productions ≡ parts.productions → deps ≡ parts.deps → P (rules_of names start productions deps) → P (take 3 (body_rules parts))
at_parts P parts names start productions deps n s p d h =
    subst (λ ds. P (rules_of (module_names parts.modules) parts.start parts.productions ds)) d
    (subst (λ ps. P (rules_of (module_names parts.modules) parts.start ps deps)) p
    (subst (λ m. P (rules_of (module_names parts.modules) m productions deps)) s
    (subst (λ ns. P (rules_of ns start productions deps)) n h)))

pub returns-then-not-holds-clause-refused : goal.returns-then-not-holds-clause-refused
returns-then-not-holds-clause-refused c =
    at_parts (λ rs. IsFirstFault rs (UnknownModule Start)) c.args.parts.now c.args.names.now c.bytes.result.now c.items-productions.result.now c.items-deps.result.now c.requires c.bytes.ensures c.items-productions.ensures c.items-deps.ensures
    (inl (0, once_fails (IsIn c.bytes.result.now c.args.names.now) (among_not c.bytes.result.now c.args.names.now (sym c.holds.ensures ∙ c.if-not-holds.true)), refl))

pub returns-in-Some-clause-refused : goal.returns-in-Some-clause-refused
returns-in-Some-clause-refused c =
    at_parts (λ rs. IsFirstFault rs (UnknownModule (Production c.in-Some.k))) c.args.parts.now c.args.names.now c.bytes.result.now c.items-productions.result.now c.items-deps.result.now c.requires c.bytes.ensures c.items-productions.ensures c.items-deps.ensures
    (inr ((λ k below. among_gives c.bytes.result.now c.args.names.now (sym c.holds.ensures ∙ c.if-not-holds.false)), inl (c.in-Some.k, c.in-Some.ensures, refl)))

pub returns-in-Some-first_unknown_deps-clause-refused : goal.returns-in-Some-first_unknown_deps-clause-refused
returns-in-Some-first_unknown_deps-clause-refused c =
    at_parts (λ rs. IsFirstFault rs (UnknownModule (DepsAt (c.in-Some-first_unknown_deps).k))) c.args.parts.now c.args.names.now c.bytes.result.now c.items-productions.result.now c.items-deps.result.now c.requires c.bytes.ensures c.items-productions.ensures c.items-deps.ensures
    (inr ((λ k below. among_gives c.bytes.result.now c.args.names.now (sym c.holds.ensures ∙ c.if-not-holds.false)), inr (c.in_default.ensures, inl ((c.in-Some-first_unknown_deps).k, (c.in-Some-first_unknown_deps).ensures, refl))))

pub returns-clause-kept : goal.returns-clause-kept
returns-clause-kept c =
    at_parts AllHold c.args.parts.now c.args.names.now c.bytes.result.now c.items-productions.result.now c.items-deps.result.now c.requires c.bytes.ensures c.items-productions.ensures c.items-deps.ensures
    ((λ k below. among_gives c.bytes.result.now c.args.names.now (sym c.holds.ensures ∙ c.if-not-holds.false)), (c.in_default.ensures, ((c.in_default-first_unknown_deps).ensures, tt)))
