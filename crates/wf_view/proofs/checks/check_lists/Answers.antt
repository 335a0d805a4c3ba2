use Rattle.std.proofs.Common.{◌≡◌, ℕ, List, [], ◌∷◌, drop, refl, subst, inl, inr}
use Rattle.wf_model.specs.declared.parts.DepsPart.{DepsPart}
use Rattle.wf_model.specs.declared.parts.ViewParts.{ViewParts}
use Rattle.wf_model.specs.Grammar.{Grammar}
use Rattle.wf_spec.specs.Pairs.{HasKnownPairs}
use Rattle.wf_spec.specs.FirstFaults.{Rule, each, AllHold, IsFirstFault}
use Rattle.wf_view.specs.Rules.{new_names, deps_names, listed, rules_of, IsModuleName, IsOnShown}
use Rattle.wf_view.specs.declared.fault.ViewSpot.TheVariants.{ExpandAt, DepsAt}
use Rattle.wf_view.specs.declared.fault.ViewFault.{ViewFault}
use Rattle.wf_view.specs.declared.fault.ViewFault.TheVariants.{UnknownModule, DepsOnExpanded, UnknownPort, ModuleTwice}
use Rattle.wf_spec.proofs.FirstFaults.{holds_of, told_some, told_none}
use Rattle.wf_view.proofs.checks.check_lists.Goals as goal

-- the rules of lists as they are read
abbrev rules_from : Grammar → ViewParts → List (List ℕ) → List DepsPart → List (Rule ViewFault)
rules_from g parts names deps =
    each parts.deps (IsOnShown g parts) DepsOnExpanded ∷
    each deps (HasKnownPairs g.modules) UnknownPort ∷
    new_names names (λ k. ModuleTwice (ExpandAt k)) ∷
    new_names (deps_names deps) (λ k. ModuleTwice (DepsAt k)) ∷ []

at_parts : (P : List (Rule ViewFault) → Type 0) (g : Grammar) (parts : ViewParts) (names : List (List ℕ)) (deps : List DepsPart) → names ≡ listed parts.expand → deps ≡ parts.deps
    → P (rules_from g parts names deps) → P (drop 3 (rules_of g parts))
at_parts P g parts names deps n d h =
    subst (λ ds. P (rules_from g parts (listed parts.expand) ds)) d (subst (λ ns. P (rules_from g parts ns deps)) n h)

pub first_on_expanded-requires-clause-known : goal.first_on_expanded-requires-clause-known
first_on_expanded-requires-clause-known c = holds_of (λ (d : DepsPart). IsModuleName c.args.g.now.core d.«module») (λ k. UnknownModule (DepsAt k)) c.args.parts.now.deps c.requires.names.1.0

pub returns-in-Some-name_twice-clause-refused : goal.returns-in-Some-name_twice-clause-refused
returns-in-Some-name_twice-clause-refused c =
    inr (at_parts (λ rs. IsFirstFault rs (ModuleTwice (ExpandAt (c.in-Some-name_twice).k))) c.args.g.now.core c.args.parts.now c.listed.result.now c.items-deps.result.now c.listed.ensures c.items-deps.ensures
    (inr (
      c.in_default.ensures,
      inr (
        (c.in_default-first_unknown_pair).ensures,
        inl ((c.in-Some-name_twice).k, told_some (new_names c.listed.result.now (λ k. ModuleTwice (ExpandAt k))) (c.in_ok-name_twice).name_twice (c.in-Some-name_twice).k (c.in_ok-name_twice).ensures (c.in-Some-name_twice).is, refl),
      ),
    )))

pub returns-in-Some-part_twice-clause-refused : goal.returns-in-Some-part_twice-clause-refused
returns-in-Some-part_twice-clause-refused c =
    inr (at_parts (λ rs. IsFirstFault rs (ModuleTwice (DepsAt (c.in-Some-part_twice).k))) c.args.g.now.core c.args.parts.now c.listed.result.now c.items-deps.result.now c.listed.ensures c.items-deps.ensures
    (inr (
      c.in_default.ensures,
      inr (
        (c.in_default-first_unknown_pair).ensures,
        inr (
          told_none (new_names c.listed.result.now (λ k. ModuleTwice (ExpandAt k))) (c.in_ok-name_twice).name_twice (c.in_ok-name_twice).ensures (c.in_default-name_twice).is,
          inl ((c.in-Some-part_twice).k, told_some (new_names (deps_names c.items-deps.result.now) (λ k. ModuleTwice (DepsAt k))) (c.in_ok-part_twice).part_twice (c.in-Some-part_twice).k (c.in_ok-part_twice).ensures (c.in-Some-part_twice).is, refl),
        ),
      ),
    )))

pub returns-clause-kept : goal.returns-clause-kept
returns-clause-kept c =
    at_parts AllHold c.args.g.now.core c.args.parts.now c.listed.result.now c.items-deps.result.now c.listed.ensures c.items-deps.ensures (
      c.in_default.ensures,
      (
        (c.in_default-first_unknown_pair).ensures,
        (
          told_none (new_names c.listed.result.now (λ k. ModuleTwice (ExpandAt k))) (c.in_ok-name_twice).name_twice (c.in_ok-name_twice).ensures (c.in_default-name_twice).is,
          (told_none (new_names (deps_names c.items-deps.result.now) (λ k. ModuleTwice (DepsAt k))) (c.in_ok-part_twice).part_twice (c.in_ok-part_twice).ensures (c.in_default-part_twice).is, tt),
        ),
      ),
    )
