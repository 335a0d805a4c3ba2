-- Well-formed grammars: names, numbers and sizes, and bodies in which each port has its one link.
use Rattle.std.specs.Prelude.{◌≡◌, ℕ, ◌*◌, ◌<◌, ◌≤◌, Bool, ◌&&◌, ◌==◌, List, ◌++◌, map, length, count_by, sum_by}
use Rattle.wf_model.specs.Lists.{IsIn, IsAt, AllDiffer, Walk}
use Rattle.wf_model.specs.Grammar.{Grammar, Module, Position, Inner, Edge, Production, Given, production_at, inputs_of, outputs_of, body_of, head_of, IsAtomic}
use Rattle.wf_model.specs.Run.{IsName}

-- a name of a module, a port or a position: 1 to 64 letters, digits, `_` and `-`
abbrev pub IsShortName : List ℕ → Type 0
IsShortName n = IsName n × (length n ≤ 64)

-- the port of an input of a position that is there
abbrev pub IsInnerInput : Grammar → ℕ → Inner → Type 0
IsInnerInput g p i = (m : ℕ) × IsAt m i.position (body_of g p) × (i.port < inputs_of g m)

-- the port of an output of a position that is there
abbrev pub IsInnerOutput : Grammar → ℕ → Inner → Type 0
IsInnerOutput g p i = (m : ℕ) × IsAt m i.position (body_of g p) × (i.port < outputs_of g m)

-- the same port of the same position, as a test
abbrev pub same_inner : Inner → Inner → Bool
same_inner a b = (a.position == b.position) && (a.port == b.port)

-- an edge of the body leads from position a to position b
abbrev pub IsFollowedBy : Grammar → ℕ → ℕ → ℕ → Type 0
IsFollowedBy g p a b = (e : Edge) × IsIn e (production_at g p).edges × (e.from.position ≡ a) × (e.to.position ≡ b)

-- The body of a production. Each input of a position is the target of exactly one edge or entry, each output the source of exactly one edge or exit, each input of the head has one entry and each output one exit; no edges lead from a position back to it
pub record IsWellFormedBody (g : Grammar) (p : ℕ) : Type 0 where
  pub some_position : 0 < length (body_of g p)
  pub modules : (m : ℕ) → IsIn m (body_of g p) → m < length g.modules
  pub names : (q : Position) → IsIn q (production_at g p).positions → IsShortName q.name
  pub names_differ : AllDiffer (map (λ (q : Position). q.name) (production_at g p).positions)
  pub edges_from : (e : Edge) → IsIn e (production_at g p).edges → IsInnerOutput g p e.from
  pub edges_to : (e : Edge) → IsIn e (production_at g p).edges → IsInnerInput g p e.to
  pub entries_to : (i : Inner) → IsIn i (production_at g p).entries → IsInnerInput g p i
  pub exits_from : (i : Inner) → IsIn i (production_at g p).exits → IsInnerOutput g p i
  pub one_entry_each : length (production_at g p).entries ≡ inputs_of g (head_of g p)
  pub one_exit_each : length (production_at g p).exits ≡ outputs_of g (head_of g p)
  pub fed_once : (i : Inner) → IsInnerInput g p i → count_by (same_inner i) (map (λ (e : Edge). e.to) (production_at g p).edges ++ (production_at g p).entries) ≡ 1
  pub used_once : (i : Inner) → IsInnerOutput g p i → count_by (same_inner i) (map (λ (e : Edge). e.from) (production_at g p).edges ++ (production_at g p).exits) ≡ 1
  pub acyclic : (a b : ℕ) → IsFollowedBy g p a b → Walk (IsFollowedBy g p) b a → ⊥

-- a module: its name and its ports' names are names, the ports' names differ, and there are at most 64 on a side
pub record IsWellFormedModule (m : Module) : Type 0 where
  pub name : IsShortName m.name
  pub ports : (n : List ℕ) → IsIn n (m.inputs ++ m.outputs) → IsShortName n
  pub ports_differ : AllDiffer (m.inputs ++ m.outputs)
  pub few_inputs : length m.inputs ≤ 64
  pub few_outputs : length m.outputs ≤ 64

-- A grammar. At most 1,024 modules and 1,024 productions, at most 64 positions in a body, and at most 65,536 as the sum of the squares of the bodies' lengths; the modules' names differ; all numbers are in range; pairs are given to atomic modules only
pub record IsWellFormed (g : Grammar) : Type 0 where
  pub start : g.start < length g.modules
  pub modules : (m : Module) → IsIn m g.modules → IsWellFormedModule m
  pub names_differ : AllDiffer (map (λ (m : Module). m.name) g.modules)
  pub few_modules : length g.modules ≤ 1024
  pub few_productions : length g.productions ≤ 1024
  pub few_positions : (p : ℕ) → p < length g.productions → length (body_of g p) ≤ 64
  pub small : sum_by (λ (r : Production). length r.positions * length r.positions) g.productions ≤ 65536
  pub heads : (p : ℕ) → p < length g.productions → head_of g p < length g.modules
  pub bodies : (p : ℕ) → p < length g.productions → IsWellFormedBody g p
  pub given_atomic : (d : Given) → IsIn d g.given → (d.module_no < length g.modules) × IsAtomic g d.module_no
  pub given_pairs : (d : Given) (e : ℕ × ℕ) → IsIn d g.given → IsIn e d.pairs → (e.0 < inputs_of g d.module_no) × (e.1 < outputs_of g d.module_no)
