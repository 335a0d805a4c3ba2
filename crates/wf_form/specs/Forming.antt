-- The grammar of parts: names turned into numbers, and when parts form a grammar.
use Rattle.std.specs.Prelude.{◌≡◌, ℕ, ◌≤◌, List, map, length, get_or}
use Rattle.wf_model.specs.declared.parts.Parts.{Parts}
use Rattle.wf_model.specs.declared.parts.ModulePart.{ModulePart}
use Rattle.wf_model.specs.declared.parts.ProdPart.{ProdPart}
use Rattle.wf_model.specs.declared.parts.PosPart.{PosPart}
use Rattle.wf_model.specs.declared.parts.PortPart.{PortPart}
use Rattle.wf_model.specs.declared.parts.EdgePart.{EdgePart}
use Rattle.wf_model.specs.declared.parts.EntryPart.{EntryPart}
use Rattle.wf_model.specs.declared.parts.ExitPart.{ExitPart}
use Rattle.wf_model.specs.declared.parts.DepsPart.{DepsPart}
use Rattle.wf_model.specs.declared.parts.PairPart.{PairPart}
use Rattle.wf_model.specs.declared.parts.VersionPart.{VersionPart}
use Rattle.wf_model.specs.Lists.{IsIn}
use Rattle.wf_model.specs.Grammar.{Grammar, Module, Position, Inner, Edge, Production, Given}
use Rattle.wf_model.specs.WellFormed.{IsWellFormed}
use Rattle.wf_model.specs.Versions.{IsVersion}
use Rattle.wf_spec.specs.declared.version.Version.{Version}
use Rattle.wf_spec.specs.Held.{HeldGrammar}
use Rattle.wf_spec.specs.Naming.{place_of, names_of, module_in}

-- a module, as its part says
abbrev pub module_of : ModulePart → Module
module_of m = record { name = m.name; inputs = m.inputs; outputs = m.outputs }

-- a position, with the number of its module among names
abbrev pub placed : List (List ℕ) → PosPart → Position
placed names q = record { name = q.name; module_no = place_of names q.module }

-- the place of a position's name in a body
abbrev pub position_in : List Position → List ℕ → ℕ
position_in body name = place_of (map (λ q. q.name) body) name

-- the module that stands at a place in a body
abbrev pub module_at_place : List Module → List Position → ℕ → Module
module_at_place modules body k =
    module_in modules (get_or (map (λ (q : Position). q.module_no) body) k (length modules))

-- an input port of a position, by numbers
abbrev pub inner_input : List Module → List Position → PortPart → Inner
inner_input modules body p =
    let k = position_in body p.pos in
    record { position = k; port = place_of (module_at_place modules body k).inputs p.port }

-- an output port of a position, by numbers
abbrev pub inner_output : List Module → List Position → PortPart → Inner
inner_output modules body p =
    let k = position_in body p.pos in
    record { position = k; port = place_of (module_at_place modules body k).outputs p.port }

-- an edge, by numbers
abbrev pub edge_in : List Module → List Position → EdgePart → Edge
edge_in modules body e = record { from = inner_output modules body e.from; to = inner_input modules body e.to }

-- where the first entry part of this port leads, and past the body where there is none
abbrev pub entry_in : List Module → List Position → List EntryPart → List ℕ → Inner
entry_in modules body entries port =
    get_or (map (λ (e : EntryPart). inner_input modules body e.to) entries)
    (place_of (map (λ (e : EntryPart). e.port) entries) port)
    (record { position = length body; port = 0 })

-- where the first exit part of this port comes from, and past the body where there is none
abbrev pub exit_in : List Module → List Position → List ExitPart → List ℕ → Inner
exit_in modules body exits port =
    get_or (map (λ (e : ExitPart). inner_output modules body e.from) exits)
    (place_of (map (λ (e : ExitPart). e.port) exits) port)
    (record { position = length body; port = 0 })

-- the body of a production part, by numbers
abbrev pub body_in : List Module → ProdPart → List Position
body_in modules p = map (placed (names_of modules)) p.body

-- the module that is the head of a production part
abbrev pub head_in : List Module → ProdPart → Module
head_in modules p = module_in modules (place_of (names_of modules) p.head)

-- a production, by numbers
abbrev pub production_in : List Module → ProdPart → Production
production_in modules p =
    let body = body_in modules p in
    record {
      head = place_of (names_of modules) p.head;
      positions = body;
      edges = map (edge_in modules body) p.edges;
      entries = map (entry_in modules body p.entries) (head_in modules p).inputs;
      exits = map (exit_in modules body p.exits) (head_in modules p).outputs;
    }

-- the pairs of a deps part, by numbers
abbrev pub given_in : List Module → DepsPart → Given
given_in modules d =
    let m = place_of (names_of modules) d.module in
    record {
      module_no = m;
      pairs = map (λ (e : PairPart). (place_of (module_in modules m).inputs e.input, place_of (module_in modules m).outputs e.output)) d.pairs;
    }

-- the modules of parts
abbrev pub modules_of : Parts → List Module
modules_of parts = map module_of parts.modules

-- the grammar that parts describe: each name turned into the number of the first thing that has it
abbrev pub grammar_of : Parts → Grammar
grammar_of parts =
    let modules = modules_of parts in
    record {
      start = place_of (names_of modules) parts.start;
      modules = modules;
      productions = map (production_in modules) parts.productions;
      given = map (given_in modules) parts.deps;
    }

-- an earlier version, by how many modules and productions its part says
abbrev pub version_in : VersionPart → Version
version_in v = record { modules = v.modules; productions = v.productions }

-- the grammar that parts describe, with its earlier versions
abbrev pub held_of : Parts → HeldGrammar
held_of parts = record { core = grammar_of parts; versions = map version_in parts.versions }

-- There are as many names as ports, and each port is one of them. So, where the ports differ, each is named once and nothing else is named.
pub record NamesEach (ports names : List (List ℕ)) : Type 0 where
  pub as_many : length names ≡ length ports
  pub each : (n : List ℕ) → IsIn n ports → IsIn n names

-- the entry parts name the head's inputs, and the exit parts its outputs
pub record HasItsLinks (modules : List Module) (p : ProdPart) : Type 0 where
  pub entries : NamesEach (head_in modules p).inputs (map (λ (e : EntryPart). e.port) p.entries)
  pub exits : NamesEach (head_in modules p).outputs (map (λ (e : ExitPart). e.port) p.exits)

-- so in each production
abbrev pub HasAllLinks : Parts → Type 0
HasAllLinks parts = (p : ProdPart) → IsIn p parts.productions → HasItsLinks (modules_of parts) p

-- the parts form a well-formed grammar
pub record IsFormed (parts : Parts) : Type 0 where
  pub links : HasAllLinks parts
  pub well_formed : IsWellFormed (grammar_of parts)

-- the parts have at most 64 versions, and each is one of the grammar that they describe
pub record HaveVersions (parts : Parts) : Type 0 where
  pub few : length parts.versions ≤ 64
  pub each : (v : VersionPart) → IsIn v parts.versions → IsVersion (grammar_of parts) v.modules v.productions
