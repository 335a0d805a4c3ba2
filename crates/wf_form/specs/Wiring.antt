-- The links of a production by numbers, as they are held.
use Rattle.std.specs.Prelude.{◌≡◌, ℕ, ◌<◌, ◌≤◌, List, [], ◌∷◌, ◌++◌, map, length}
use Rattle.wf_model.specs.declared.body.Edge.{Edge as EdgeHeld}
use Rattle.wf_model.specs.declared.parts.ProdPart.{ProdPart}
use Rattle.wf_model.specs.declared.parts.EntryPart.{EntryPart}
use Rattle.wf_model.specs.declared.parts.ExitPart.{ExitPart}
use Rattle.wf_model.specs.declared.parts.DepsPart.{DepsPart}
use Rattle.wf_model.specs.Lists.{IsIn, IsAt, AllDiffer}
use Rattle.wf_model.specs.Grammar.{Module, Position, Inner}
use Rattle.wf_model.specs.Meaning.{position_of, inner_of, edge_of}
use Rattle.wf_form.specs.declared.wiring.Entry.{Entry}
use Rattle.wf_form.specs.declared.wiring.Exit.{Exit}
use Rattle.wf_form.specs.declared.wiring.Wiring.{Wiring}
use Rattle.wf_form.specs.declared.fault.FormFault.{FormFault}
use Rattle.wf_form.specs.declared.fault.FormFault.TheVariants.{PortLinkedTwice, PortUnlinked, BodyCycle}
use Rattle.wf_spec.specs.Naming.{place_of, names_of, module_in}
use Rattle.wf_form.specs.Forming.{body_in, head_in, inner_input, inner_output, edge_in}
use Rattle.wf_form.specs.Graphs.{IsAcyclic}
use Rattle.wf_spec.specs.FewPorts.{HaveFewPorts}
use Rattle.wf_form.specs.Resolving.{AreOfModules, IsInputIn, IsOutputIn}
use Rattle.wf_spec.specs.FirstFaults.{Rule, each}
use Rattle.wf_form.specs.Rules.{HasKnownModules}

-- an entry as it is held: an input of the head, and the input of a position to which it leads
abbrev pub entry_of : Entry → ℕ × Inner
entry_of e = (e.port.0, inner_of e.to)

-- an exit as it is held: the output of a position from which it leads, and an output of the head
abbrev pub exit_of : Exit → Inner × ℕ
exit_of e = (inner_of e.from, e.port.0)

-- an entry part, by numbers
abbrev pub entry_link : List Module → List Position → Module → EntryPart → ℕ × Inner
entry_link modules body head e = (place_of head.inputs e.port, inner_input modules body e.to)

-- an exit part, by numbers
abbrev pub exit_link : List Module → List Position → Module → ExitPart → Inner × ℕ
exit_link modules body head e = (inner_output modules body e.from, place_of head.outputs e.port)

-- both ends of an entry part are there
pub record IsEntryIn (modules : List Module) (body : List Position) (head : Module) (e : EntryPart) : Type 0 where
  pub from : IsIn e.port head.inputs
  pub to : IsInputIn modules body (inner_input modules body e.to)

-- both ends of an exit part are there
pub record IsExitIn (modules : List Module) (body : List Position) (head : Module) (e : ExitPart) : Type 0 where
  pub from : IsOutputIn modules body (inner_output modules body e.from)
  pub to : IsIn e.port head.outputs

-- each list is that of the part, with names turned into numbers
pub record IsWiringOf (modules : List Module) (p : ProdPart) (w : Wiring) : Type 0 where
  pub head : w.head.0 ≡ place_of (names_of modules) p.head
  pub positions : map position_of w.positions.items ≡ body_in modules p
  pub edges : map edge_of w.edges.items ≡ map (edge_in modules (body_in modules p)) p.edges
  pub entries : map entry_of w.entries.items ≡ map (entry_link modules (body_in modules p) (head_in modules p)) p.entries
  pub exits : map exit_of w.exits.items ≡ map (exit_link modules (body_in modules p) (head_in modules p)) p.exits

-- a wiring for each part
pub record AreWiringsOf (modules : List Module) (parts : List ProdPart) (wirings : List Wiring) : Type 0 where
  pub as_many : length wirings ≡ length parts
  pub each : (k : ℕ) (p : ProdPart) (w : Wiring) → IsAt p k parts → IsAt w k wirings → IsWiringOf modules p w

-- the positions of a wiring
abbrev pub body_of : Wiring → List Position
body_of w = map position_of w.positions.items

-- the module that it expands
abbrev pub head_of : List Module → Wiring → Module
head_of modules w = module_in modules w.head.0

-- the inputs of positions to which its edges and entries lead
abbrev pub fed_by : Wiring → List Inner
fed_by w = map (λ (e : EdgeHeld). inner_of e.to) w.edges.items ++ map (λ (e : Entry). inner_of e.to) w.entries.items

-- the outputs of positions from which its edges and exits lead
abbrev pub used_by : Wiring → List Inner
used_by w = map (λ (e : EdgeHeld). inner_of e.from) w.edges.items ++ map (λ (e : Exit). inner_of e.from) w.exits.items

-- the inputs of the head that have entries, and its outputs that have exits
abbrev pub entered_by : Wiring → List ℕ
entered_by w = map (λ (e : Entry). e.port.0) w.entries.items

abbrev pub left_by : Wiring → List ℕ
left_by w = map (λ (e : Exit). e.port.0) w.exits.items

-- a port of a head, as one of a single position
abbrev pub in_head : ℕ → Inner
in_head k = record { position = 0; port = k }

-- ends stand at one of so many positions, with ports of small numbers
abbrev pub AreSmall : ℕ → List Inner → Type 0
AreSmall positions ends = (i : Inner) → IsIn i ends → (i.position < positions) × (i.port < 64)

-- so do those of a wiring
pub record IsSmall (w : Wiring) : Type 0 where
  pub few_positions : length w.positions.items ≤ 64
  pub fed : AreSmall (length w.positions.items) (fed_by w)
  pub used : AreSmall (length w.positions.items) (used_by w)
  pub entered : AreSmall 1 (map in_head (entered_by w))
  pub left : AreSmall 1 (map in_head (left_by w))

-- the modules of a wiring are there, and the ports that its links join, on the side that each needs
pub record IsWithin (modules : List Module) (w : Wiring) : Type 0 where
  pub head : w.head.0 < length modules
  pub few_positions : length w.positions.items ≤ 64
  pub of_modules : AreOfModules modules (body_of w)
  pub fed : (i : Inner) → IsIn i (fed_by w) → IsInputIn modules (body_of w) i
  pub used : (i : Inner) → IsIn i (used_by w) → IsOutputIn modules (body_of w) i
  pub entered : (k : ℕ) → IsIn k (entered_by w) → k < length (head_of modules w).inputs
  pub left : (k : ℕ) → IsIn k (left_by w) → k < length (head_of modules w).outputs

-- no port of a wiring has two links
pub record IsWiredAtMostOnce (w : Wiring) : Type 0 where
  pub inputs : AllDiffer (fed_by w)
  pub outputs : AllDiffer (used_by w)
  pub head_inputs : AllDiffer (entered_by w)
  pub head_outputs : AllDiffer (left_by w)

-- each has one
pub record IsWiredAtLeastOnce (modules : List Module) (w : Wiring) : Type 0 where
  pub inputs : (i : Inner) → IsInputIn modules (body_of w) i → IsIn i (fed_by w)
  pub outputs : (i : Inner) → IsOutputIn modules (body_of w) i → IsIn i (used_by w)
  pub head_inputs : (k : ℕ) → k < length (head_of modules w).inputs → IsIn k (entered_by w)
  pub head_outputs : (k : ℕ) → k < length (head_of modules w).outputs → IsIn k (left_by w)

-- its edges lead from no position back to it
abbrev pub IsWiredForward : Wiring → Type 0
IsWiredForward w = IsAcyclic (map edge_of w.edges.items)

-- the rules on the links of wirings
abbrev pub wiring_rules : List Module → List Wiring → List (Rule FormFault)
wiring_rules modules wirings =
    each wirings IsWiredAtMostOnce PortLinkedTwice ∷
    each wirings (IsWiredAtLeastOnce modules) PortUnlinked ∷
    each wirings IsWiredForward BodyCycle ∷ []

-- what the rules on modules and bodies give to those on links
pub record AreReady (names : List (List ℕ)) (modules : List Module) (productions : List ProdPart) (deps : List DepsPart) : Type 0 where
  pub numbered : names ≡ names_of modules
  pub few_modules : length modules ≤ 1024
  pub few_ports : HaveFewPorts modules
  pub ports_differ : (m : Module) → IsIn m modules → AllDiffer (m.inputs ++ m.outputs)
  pub few_positions : (p : ProdPart) → IsIn p productions → length p.body ≤ 64
  pub known : (p : ProdPart) → IsIn p productions → HasKnownModules names p
  pub given : (d : DepsPart) → IsIn d deps → IsIn d.module names
