-- A run as a table of numbered instances.
use Rattle.std.specs.Prelude.{◌≡◌, ◌⊎◌, ℕ, ◌<◌, ◌≤◌, ◌+◌, List, [], ◌∷◌, ◌++◌, map, take, drop, length, get_or, set, Option, Some, None, option_map, position, bytes_eq, MatchOption}
use Rattle.wf_model.specs.declared.event.Event.{Event}
use Rattle.wf_model.specs.declared.event.Event.TheVariants.{Start, Expand}
use Rattle.wf_model.specs.declared.event.RunFault.{RunFault}
use Rattle.wf_model.specs.declared.event.RunFault.TheVariants.{NoMemory}
use Rattle.wf_model.specs.declared.numbers.ProdNo.{ProdNo}
use Rattle.wf_model.specs.declared.numbers.ModNo.{ModNo}
use Rattle.wf_model.specs.declared.body.Position.{Position}
use Rattle.wf_model.specs.Faults.{fault_of}
use Rattle.wf_model.specs.Lists.{IsIn, IsAt}
use Rattle.wf_model.specs.Grammar.{Grammar, body_of}
use Rattle.wf_model.specs.Run.{Instance, Expanded, named, made, expanded_by, IsAccepted}
use Rattle.wf_flat.specs.declared.table.Inst.{Inst}
use Rattle.wf_flat.specs.declared.table.Opened.{Opened}

-- what contracts see of a run: the limit on its instances, the instances in order of making, and the expansions in their order
pub record Table : Type 0 where
  pub most : ℕ
  pub instances : List Inst
  pub order : List Opened

-- an instance of the table, by its name and module
abbrev pub instance_of : Inst → Instance
instance_of x = record { name = x.name; module_no = x.module.0 }

abbrev pub names_in : List Inst → List (List ℕ)
names_in xs = map (λ (x : Inst). x.name) xs

-- this number of an instance, or none, is what a look-up of the instance that an event expands gives; a start event expands none
abbrev pub IsFoundFor : Table → Event → Option ℕ → Type 0
IsFoundFor t (Start root) found = Unit {0}
IsFoundFor t (Expand i p names) found = found ≡ position (bytes_eq i) (names_in t.instances)

-- the names that an expansion gave
abbrev pub given_names : List (List ℕ) → Opened → List (List ℕ)
given_names names o = take o.count (drop o.first names)

abbrev pub expansion_of : List (List ℕ) → Opened → Event
expansion_of names o = Expand (get_or names o.instance []) o.production.0 (given_names names o)

-- the events that made instances of these names, by expansions in this order
abbrev pub events_by : List (List ℕ) → List Opened → List Event
events_by names order = map Start (take 1 names) ++ map (expansion_of names) order

-- the events that the table stands for
abbrev pub events_of : Table → List Event
events_of t = events_by (names_in t.instances) t.order

-- an expansion is of an instance that is there, and so are its children
abbrev pub IsOpenedIn : ℕ → Opened → Type 0
IsOpenedIn count o = (o.instance < count) × (0 < o.first) × (o.first + o.count ≤ count)

-- what the fields of a run keep, whatever the grammar is
pub record IsTableKept (most : ℕ) (names : List (List ℕ)) (xs : List Inst) (order : List Opened) : Type 0 where
  pub same_names : names ≡ names_in xs
  pub few : length xs ≤ most
  pub opened : (o : Opened) → IsIn o order → IsOpenedIn (length xs) o

-- the instances that an expansion makes
abbrev pub children : ℕ → List (List ℕ) → List Position → List Inst
children k [] qs = []
children k (n ∷ ns) [] = []
children k (n ∷ ns) (q ∷ qs) = record { name = n; «module» = q.module; parent = Some k; production = None; first_child = 0 } ∷ children k ns qs

abbrev pub expanded_by_no : ProdNo → ℕ → Inst → Inst
expanded_by_no p first x = record { name = x.name; «module» = x.module; parent = x.parent; production = Some p; first_child = first }

abbrev pub no_instance : Inst
no_instance = record { name = []; «module» = record { 0 = 0 }; parent = None; production = None; first_child = 0 }

-- the instances after an expansion
abbrev pub with_children : List Inst → Opened → List (List ℕ) → List Position → List Inst
with_children xs o names body =
    set xs o.instance (expanded_by_no o.production o.first (get_or xs o.instance no_instance)) ++ children o.instance names body

-- the table after instance k was expanded by production p
abbrev pub opened_table : Table → ℕ → ProdNo → List (List ℕ) → List Position → Table
opened_table t k p names body =
    let o : Opened = record { instance = k; production = p; first = length t.instances; count = length names } in
    record { most = t.most; instances = with_children t.instances o names body; order = t.order ++ o ∷ [] }

abbrev pub root_instance : ModNo → List ℕ → Inst
root_instance m name = record { name = name; «module» = m; parent = None; production = None; first_child = 0 }

-- the table after the start
abbrev pub started_table : ℕ → ModNo → List ℕ → Table
started_table most m name = record { most = most; instances = root_instance m name ∷ []; order = [] }

-- how an instance of the table was expanded
abbrev pub expansion_at : Grammar → List (List ℕ) → Inst → Option Expanded
expansion_at g names x =
    option_map (λ (p : ProdNo). record { production = p.0; names = take (length (body_of g p.0)) (drop x.first_child names) }) x.production

-- instance p, made before instance k, was expanded, and k stands among the instances that this made
pub record IsParentAt (g : Grammar) (xs : List Inst) (p k : ℕ) : Type 0 where
  pub before : p < k
  pub production : ProdNo
  pub expanded : (get_or xs p no_instance).production ≡ Some production
  pub first : (get_or xs p no_instance).first_child ≤ k
  pub last : k < (get_or xs p no_instance).first_child + length (body_of g production.0)

-- the table stands for an accepted run of the grammar
pub record IsTableOf (g : Grammar) (t : Table) : Type 0 where
  -- its events are a run of the grammar within the limit
  pub accepted : IsAccepted g t.most (events_of t)
  -- its instances are those that the events make, in their order
  pub made : map instance_of t.instances ≡ made g g.start (events_of t)
  -- each instance is expanded as the events say: by its production, into the instances from its first child on
  pub expanded : (k : ℕ) (x : Inst) → IsAt x k t.instances → expanded_by (events_of t) x.name ≡ expansion_at g (names_in t.instances) x
  -- the children of an expanded instance are there
  pub children : (k : ℕ) (x : Inst) (p : ProdNo) → IsAt x k t.instances → x.production ≡ Some p → x.first_child + length (body_of g p.0) ≤ length t.instances
  -- each expansion made instances of the modules of its body
  pub ordered : (o : Opened) → IsIn o t.order → take o.count (drop o.first (map instance_of t.instances)) ≡ named (given_names (names_in t.instances) o) (body_of g o.production.0)
  -- the root alone has no parent, and each other instance was made by the expansion of its parent
  pub parents : (k : ℕ) (x : Inst) → IsAt x k t.instances → MatchOption x.parent (k ≡ 0) (λ p. IsParentAt g t.instances p k)

-- an event is refused so: memory was refused, or this fault is the first that the run of the table has against it
abbrev pub TableRefuses : Grammar → Table → Event → RunFault → Type 0
TableRefuses g t e f = (f ≡ NoMemory) ⊎ (fault_of g t.most (events_of t) e ≡ Some f)

-- the run has nothing against it
abbrev pub TableTakes : Grammar → Table → Event → Type 0
TableTakes g t e = fault_of g t.most (events_of t) e ≡ None
