-- The rules that the parts of a view keep, in the order in which they are tried, and the fault that is told where one is broken.
use Rattle.std.specs.Prelude.{◌≡◌, ℕ, false, List, [], ◌∷◌, map, length, Option, Some, None, IsTrue}
use Rattle.wf_model.specs.declared.parts.ViewParts.{ViewParts}
use Rattle.wf_model.specs.declared.parts.DepsPart.{DepsPart}
use Rattle.wf_model.specs.Lists.{IsIn}
use Rattle.wf_model.specs.Grammar.{Grammar}
use Rattle.wf_spec.specs.Naming.{place_of, names_of, IsNewAt}
use Rattle.wf_spec.specs.FirstFaults.{Rule, each, AllHold, IsFirstFault}
use Rattle.wf_spec.specs.Pairs.{HasKnownPairs}
use Rattle.wf_view.specs.declared.fault.ViewSpot.TheVariants.{ExpandAt, DepsAt}
use Rattle.wf_view.specs.declared.fault.ViewFault.{ViewFault}
use Rattle.wf_view.specs.declared.fault.ViewFault.TheVariants.{UnknownModule, NotComposite, DepsOnExpanded, UnknownPort, ModuleTwice}
use Rattle.wf_model.specs.Composite.{is_composite}
use Rattle.wf_view.specs.Viewing.{is_expanded}

-- the names that are to be expanded; none where there is no list
abbrev pub listed : Option (List (List ℕ)) → List (List ℕ)
listed None = []
listed (Some names) = names

-- the number of the module of this name
abbrev pub number_in : Grammar → List ℕ → ℕ
number_in g name = place_of (names_of g.modules) name

-- UnknownModule: a module has this name
abbrev pub IsModuleName : Grammar → List ℕ → Type 0
IsModuleName g name = IsIn name (names_of g.modules)

-- NotComposite: the module of this name is composite
abbrev pub IsCompositeName : Grammar → List ℕ → Type 0
IsCompositeName g name = IsTrue (is_composite g (number_in g name))

-- DepsOnExpanded: the module of a deps part is not one that the view expands, whether it is seen or not
abbrev pub IsOnShown : Grammar → ViewParts → DepsPart → Type 0
IsOnShown g parts d = is_expanded g parts (number_in g d.«module») ≡ false

-- the names of the modules of deps parts
abbrev pub deps_names : List DepsPart → List (List ℕ)
deps_names = map (λ (d : DepsPart). d.«module»)

-- ModuleTwice: no name stands a second time in a list
abbrev pub new_names : List (List ℕ) → (ℕ → ViewFault) → Rule ViewFault
new_names names told = record { places = length names; holds = IsNewAt names; fault = told }

-- The rules on the parts of a view of a grammar
abbrev pub rules_of : Grammar → ViewParts → List (Rule ViewFault)
rules_of g parts =
    let names = listed parts.expand in
    each names (IsModuleName g) (λ k. UnknownModule (ExpandAt k)) ∷
    each parts.deps (λ d. IsModuleName g d.«module») (λ k. UnknownModule (DepsAt k)) ∷
    each names (IsCompositeName g) NotComposite ∷
    each parts.deps (IsOnShown g parts) DepsOnExpanded ∷
    each parts.deps (HasKnownPairs g.modules) UnknownPort ∷
    new_names names (λ k. ModuleTwice (ExpandAt k)) ∷
    new_names (deps_names parts.deps) (λ k. ModuleTwice (DepsAt k)) ∷ []

-- the parts are those of a view of the grammar: they keep all rules
abbrev pub IsViewed : Grammar → ViewParts → Type 0
IsViewed g parts = AllHold (rules_of g parts)

-- the fault of parts: that of the first rule that is broken, at the first place
abbrev pub IsFaultOf : Grammar → ViewParts → ViewFault → Type 0
IsFaultOf g parts f = IsFirstFault (rules_of g parts) f
