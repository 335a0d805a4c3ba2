-- The rules that the parts of a specification keep, in the order in which they are tried, and the fault that is told where one is broken.
use Rattle.std.specs.Prelude.{◌≢◌, ◌⊎◌, ◌↔◌, ℕ, ◌<◌, ◌≤◌, ◌*◌, List, [], ◌∷◌, ◌++◌, map, length, sum_by}
use Rattle.wf_model.specs.declared.parts.Parts.{Parts}
use Rattle.wf_model.specs.declared.parts.ModulePart.{ModulePart}
use Rattle.wf_model.specs.declared.parts.ProdPart.{ProdPart}
use Rattle.wf_model.specs.declared.parts.PosPart.{PosPart}
use Rattle.wf_model.specs.declared.parts.EdgePart.{EdgePart}
use Rattle.wf_model.specs.declared.parts.EntryPart.{EntryPart}
use Rattle.wf_model.specs.declared.parts.ExitPart.{ExitPart}
use Rattle.wf_model.specs.declared.parts.DepsPart.{DepsPart}
use Rattle.wf_model.specs.Lists.{IsIn, AllDiffer}
use Rattle.wf_model.specs.Grammar.{Module, Inner}
use Rattle.wf_model.specs.WellFormed.{IsShortName}
use Rattle.wf_model.specs.Versions.{IsVersion}
use Rattle.wf_form.specs.declared.fault.Spot.TheVariants.{Start, Module as AtModule, Production as AtProduction, DepsAt}
use Rattle.wf_form.specs.declared.fault.FormFault.{FormFault}
use Rattle.wf_form.specs.declared.fault.FormFault.TheVariants.{NameBad, NameTwice, PortTwice, TooManyPorts, TooManyModules, TooManyProductions, UnknownModule, EmptyBody, BodyTooLong, BodiesTooLarge, PositionTwice, UnknownPort, PortLinkedTwice, PortUnlinked, BodyCycle, DepsOnComposite, TooManyVersions, VersionBad}
use Rattle.wf_form.specs.Forming.{modules_of, body_in, head_in, inner_input, inner_output, edge_in, grammar_of, IsFormed, HaveVersions}
use Rattle.wf_form.specs.Resolving.{IsInputIn, IsOutputIn, IsEdgeIn}
use Rattle.wf_form.specs.Graphs.{IsAcyclic}
use Rattle.wf_spec.specs.Naming.{IsNewAt}
use Rattle.wf_spec.specs.Pairs.{HasKnownPairs}
use Rattle.wf_spec.specs.FirstFaults.{Rule, each, once, AllHold, IsFirstFault}

-- the names of modules, as parts give them
abbrev pub module_names : List ModulePart → List (List ℕ)
module_names = map (λ (m : ModulePart). m.name)

-- the names of the positions of a body, as parts give them
abbrev pub position_names : ProdPart → List (List ℕ)
position_names p = map (λ (q : PosPart). q.name) p.body

-- NameBad: the names of a module and of its ports are 1 to 64 letters, digits, `_` and `-`
pub record HasShortNames (m : ModulePart) : Type 0 where
  pub name : IsShortName m.name
  pub inputs : (n : List ℕ) → IsIn n m.inputs → IsShortName n
  pub outputs : (n : List ℕ) → IsIn n m.outputs → IsShortName n

-- and so are the names of the positions of a body
abbrev pub HasShortPositions : ProdPart → Type 0
HasShortPositions p = (q : PosPart) → IsIn q p.body → IsShortName q.name

-- PortTwice: the names of the inputs and outputs of a module differ
abbrev pub HasDifferentPorts : ModulePart → Type 0
HasDifferentPorts m = AllDiffer (m.inputs ++ m.outputs)

-- TooManyPorts: at most 64 inputs, and at most 64 outputs
abbrev pub HasFewPorts : ModulePart → Type 0
HasFewPorts m = (length m.inputs ≤ 64) × (length m.outputs ≤ 64)

-- UnknownModule: the head is one of these modules, and so is the module at each position
pub record HasKnownModules (names : List (List ℕ)) (p : ProdPart) : Type 0 where
  pub head : IsIn p.head names
  pub positions : (q : PosPart) → IsIn q p.body → IsIn q.module names

-- the sum of the squares of the lengths of bodies
abbrev pub squares : List ProdPart → ℕ
squares = sum_by (λ (p : ProdPart). length p.body * length p.body)

-- UnknownPort: what the links of a production name is there, on the side that it needs
pub record HasKnownPorts (modules : List Module) (p : ProdPart) : Type 0 where
  pub edges : (e : EdgePart) → IsIn e p.edges → IsEdgeIn modules (body_in modules p) e
  pub entries_from : (e : EntryPart) → IsIn e p.entries → IsIn e.port (head_in modules p).inputs
  pub entries_to : (e : EntryPart) → IsIn e p.entries → IsInputIn modules (body_in modules p) (inner_input modules (body_in modules p) e.to)
  pub exits_from : (e : ExitPart) → IsIn e p.exits → IsOutputIn modules (body_in modules p) (inner_output modules (body_in modules p) e.from)
  pub exits_to : (e : ExitPart) → IsIn e p.exits → IsIn e.port (head_in modules p).outputs

-- the inputs of positions to which the edges and entries of a production lead
abbrev pub fed : List Module → ProdPart → List Inner
fed modules p =
    map (λ (e : EdgePart). inner_input modules (body_in modules p) e.to) p.edges ++
    map (λ (e : EntryPart). inner_input modules (body_in modules p) e.to) p.entries

-- the outputs of positions from which its edges and exits lead
abbrev pub used : List Module → ProdPart → List Inner
used modules p =
    map (λ (e : EdgePart). inner_output modules (body_in modules p) e.from) p.edges ++
    map (λ (e : ExitPart). inner_output modules (body_in modules p) e.from) p.exits

-- the inputs of the head that have entries, and its outputs that have exits
abbrev pub entered : ProdPart → List (List ℕ)
entered p = map (λ (e : EntryPart). e.port) p.entries

abbrev pub left : ProdPart → List (List ℕ)
left p = map (λ (e : ExitPart). e.port) p.exits

-- PortLinkedTwice: no port of the body or of the head has two links
pub record IsLinkedAtMostOnce (modules : List Module) (p : ProdPart) : Type 0 where
  pub inputs : AllDiffer (fed modules p)
  pub outputs : AllDiffer (used modules p)
  pub head_inputs : AllDiffer (entered p)
  pub head_outputs : AllDiffer (left p)

-- PortUnlinked: each has one
pub record IsLinkedAtLeastOnce (modules : List Module) (p : ProdPart) : Type 0 where
  pub inputs : (i : Inner) → IsInputIn modules (body_in modules p) i → IsIn i (fed modules p)
  pub outputs : (i : Inner) → IsOutputIn modules (body_in modules p) i → IsIn i (used modules p)
  pub head_inputs : (n : List ℕ) → IsIn n (head_in modules p).inputs → IsIn n (entered p)
  pub head_outputs : (n : List ℕ) → IsIn n (head_in modules p).outputs → IsIn n (left p)

-- BodyCycle: the edges lead from no position back to it
abbrev pub HasNoCycle : List Module → ProdPart → Type 0
HasNoCycle modules p = IsAcyclic (map (edge_in modules (body_in modules p)) p.edges)

-- DepsOnComposite: the module of a deps part is no head
abbrev pub IsOfAtomic : List ProdPart → DepsPart → Type 0
IsOfAtomic productions d = (p : ProdPart) → IsIn p productions → p.head ≢ d.module

-- the rule that no module has the name of an earlier one
abbrev pub new_names : List ModulePart → Rule FormFault
new_names modules = record { places = length modules; holds = IsNewAt (module_names modules); fault = NameTwice }

-- the rules on modules by themselves, and on the numbers of modules and productions
abbrev pub first_rules : Parts → List (Rule FormFault)
first_rules parts =
    each parts.modules HasShortNames (λ k. NameBad (AtModule k)) ∷
    each parts.productions HasShortPositions (λ k. NameBad (AtProduction k)) ∷
    new_names parts.modules ∷
    each parts.modules HasDifferentPorts PortTwice ∷
    each parts.modules HasFewPorts TooManyPorts ∷
    once (length parts.modules ≤ 1024) TooManyModules ∷
    once (length parts.productions ≤ 1024) TooManyProductions ∷ []

-- the rules on the names of modules, and on the positions of bodies
abbrev pub body_rules : Parts → List (Rule FormFault)
body_rules parts =
    let names = module_names parts.modules in
    once (IsIn parts.start names) (UnknownModule Start) ∷
    each parts.productions (HasKnownModules names) (λ k. UnknownModule (AtProduction k)) ∷
    each parts.deps (λ d. IsIn d.module names) (λ k. UnknownModule (DepsAt k)) ∷
    each parts.productions (λ p. 0 < length p.body) EmptyBody ∷
    each parts.productions (λ p. length p.body ≤ 64) BodyTooLong ∷
    once (squares parts.productions ≤ 65536) BodiesTooLarge ∷
    each parts.productions (λ p. AllDiffer (position_names p)) PositionTwice ∷ []

-- the rules on links, and on the pairs of modules, for modules, productions and deps parts
abbrev pub link_rules_of : List Module → List ProdPart → List DepsPart → List (Rule FormFault)
link_rules_of modules productions deps =
    each productions (HasKnownPorts modules) (λ k. UnknownPort (AtProduction k)) ∷
    each deps (HasKnownPairs modules) (λ k. UnknownPort (DepsAt k)) ∷
    each productions (IsLinkedAtMostOnce modules) PortLinkedTwice ∷
    each productions (IsLinkedAtLeastOnce modules) PortUnlinked ∷
    each productions (HasNoCycle modules) BodyCycle ∷
    each deps (IsOfAtomic productions) DepsOnComposite ∷ []

abbrev pub link_rules : Parts → List (Rule FormFault)
link_rules parts = link_rules_of (modules_of parts) parts.productions parts.deps

-- the rules on versions, for parts that keep the others
abbrev pub version_rules : Parts → List (Rule FormFault)
version_rules parts =
    once (length parts.versions ≤ 64) TooManyVersions ∷
    each parts.versions (λ v. IsVersion (grammar_of parts) v.modules v.productions) VersionBad ∷ []

-- the parts keep all rules but those on versions
pub record AreKept (parts : Parts) : Type 0 where
  pub first : AllHold (first_rules parts)
  pub bodies : AllHold (body_rules parts)
  pub links : AllHold (link_rules parts)

-- the fault of parts: that of the first rule that is broken, at the first place
abbrev pub IsFaultOf : Parts → FormFault → Type 0
IsFaultOf parts f =
    IsFirstFault (first_rules parts) f ⊎
    (AllHold (first_rules parts) × (IsFirstFault (body_rules parts) f ⊎
    (AllHold (body_rules parts) × (IsFirstFault (link_rules parts) f ⊎
    (AllHold (link_rules parts) × IsFirstFault (version_rules parts) f)))))

-- parts keep all rules exactly if they form a well-formed grammar with earlier versions
abbrev pub FormingLaw : Type 0
FormingLaw = (parts : Parts) → (AreKept parts ↔ IsFormed parts) × (AllHold (version_rules parts) ↔ HaveVersions parts)
