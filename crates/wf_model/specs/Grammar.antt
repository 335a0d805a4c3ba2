-- Workflow grammars: modules with ports, productions with bodies, and the pairs of atomic modules.
use Rattle.std.specs.Prelude.{◌≡◌, ℕ, zero, suc, ◌+◌, ◌*◌, ◌<◌, ◌≤◌, ◌⊎◌, Bool, true, false, cond, ◌||◌, ◌&&◌, ◌==◌, List, [], ◌∷◌, ◌++◌, map, length, get_or, All, count_by, sum_by, IsTrue, nat_le, Option, Some, None}
use Rattle.wf_model.specs.Lists.{some}

-- a module: its name, and the names of its input ports and of its output ports, either list may be empty
pub record Module : Type 0 where
  pub name : List ℕ
  pub inputs : List (List ℕ)
  pub outputs : List (List ℕ)

-- a position of a body: its name, and the number of the module that stands there
pub record Position : Type 0 where
  pub name : List ℕ
  pub module_no : ℕ

-- a port of a position, both by number, on the side that its use tells
pub record Inner : Type 0 where
  pub position : ℕ
  pub port : ℕ

-- an edge leads from an output of a position to an input of a position
pub record Edge : Type 0 where
  pub from : Inner
  pub to : Inner

-- a production: a head, and a body of positions, edges, entries and exits. Entry k leads from input k of the head to an input of a position, exit k from an output of a position to output k of the head
pub record Production : Type 0 where
  pub head : ℕ
  pub positions : List Position
  pub edges : List Edge
  pub entries : List Inner
  pub exits : List Inner

-- pairs (input, output) that are given to a module
pub record Given : Type 0 where
  pub module_no : ℕ
  pub pairs : List (ℕ × ℕ)

-- a workflow grammar: its lists, numbered from 0, the start module, and the pairs given to atomic modules
pub record Grammar : Type 0 where
  pub start : ℕ
  pub modules : List Module
  pub productions : List Production
  pub given : List Given

-- a set of pairs (input, output) for each module, as a test
abbrev pub Assignment : Type 0
Assignment = ℕ → ℕ → ℕ → Bool

-- the production of this number, and an empty one past the end
abbrev pub production_at : Grammar → ℕ → Production
production_at g p = get_or g.productions p (record { head = 0; positions = []; edges = []; entries = []; exits = [] })

-- the module of this number, and one with no ports past the end
abbrev pub module_at : Grammar → ℕ → Module
module_at g m = get_or g.modules m (record { name = []; inputs = []; outputs = [] })

-- how many inputs a module has
abbrev pub inputs_of : Grammar → ℕ → ℕ
inputs_of g m = length (module_at g m).inputs

-- how many outputs it has
abbrev pub outputs_of : Grammar → ℕ → ℕ
outputs_of g m = length (module_at g m).outputs

-- the module that a production expands
abbrev pub head_of : Grammar → ℕ → ℕ
head_of g p = (production_at g p).head

-- the modules of a production's body, by position
abbrev pub body_of : Grammar → ℕ → List ℕ
body_of g p = map (λ (q : Position). q.module_no) (production_at g p).positions

-- p is a production of the module m
abbrev pub IsProductionOf : Grammar → ℕ → ℕ → Type 0
IsProductionOf g p m = (p < length g.productions) × (head_of g p ≡ m)

-- a module is atomic where it is the head of no production
abbrev pub IsAtomic : Grammar → ℕ → Type 0
IsAtomic g m = (p : ℕ) → p < length g.productions → head_of g p ≡ m → ⊥

-- a module is composite where it is the head of a production
abbrev pub IsComposite : Grammar → ℕ → Type 0
IsComposite g m = (p : ℕ) × IsProductionOf g p m

-- a pair is among those given. Where two parts give pairs to a module it has both; where a part is there with no pairs it has none; where no part names the module it has all
abbrev pub is_given : List Given → Assignment
is_given given m i o =
    cond (some (λ (d : Given). d.module_no == m) given)
    (some (λ (d : Given). (d.module_no == m) && some (λ (e : ℕ × ℕ). (e.0 == i) && (e.1 == o)) d.pairs) given)
    true

-- the alternative number of a production: its place among those of its head
abbrev pub alternative_of : Grammar → ℕ → ℕ
alternative_of g p = count_by (λ (r : Production). r.head == head_of g p) (Rattle.std.specs.Prelude.take p g.productions)
