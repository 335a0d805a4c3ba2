-- What contracts see of a run: its instances by number, in order of making, with what is kept of each.
use Rattle.std.specs.Prelude.{◌≡◌, ℕ, ◌<◌, ◌≤◌, Bool, List, [], ◌++◌, map, length, get_or, Option, Some, None, MatchOption}
use Rattle.wf_model.specs.declared.event.Event.{Event}
use Rattle.wf_model.specs.Grammar.{IsComposite}
use Rattle.wf_model.specs.Run.{Instance, made, names_of, expanded_by, IsAccepted}
use Rattle.wf_spec.specs.Held.{HeldGrammar}
use Rattle.label_model.specs.RunLabels.{IsPrefix}
use Rattle.label_model.specs.Bound.{expand_events}

-- an instance: its module, the numbers of its children once it is expanded, and the bits with which each label begins that it may come to make, up to the last chain number, with this number
pub record Node : Type 0 where
  pub module_no : ℕ
  pub children : Option (List ℕ)
  pub bits : List Bool
  pub chain : Option ℕ

-- a run: its grammar, the limit on its instances, their names and what is kept of them, in order of making, and how many expand events there were
pub record RunSeen : Type 0 where
  pub grammar : HeldGrammar
  pub most : ℕ
  pub names : List (List ℕ)
  pub nodes : List Node
  pub expands : ℕ

-- the instance of a number, and one of nothing past the end
abbrev pub node_at : RunSeen → ℕ → Node
node_at r k = get_or r.nodes k (record { module_no = 0; children = None; bits = []; chain = None })

-- its name
abbrev pub name_at : RunSeen → ℕ → List ℕ
name_at r k = get_or r.names k []

-- the names of the instances of these numbers
abbrev pub names_at : RunSeen → List ℕ → List (List ℕ)
names_at r ks = map (name_at r) ks

-- how the events expand an instance with these children: not where there are none; else by some production, with their names
abbrev pub IsExpandedAs : RunSeen → List Event → List ℕ → Option (List ℕ) → Type 0
IsExpandedAs r events name children =
    MatchOption children (expanded_by events name ≡ None) (λ ks. (p : ℕ) × (expanded_by events name ≡ Some (record { production = p; names = names_at r ks })))

-- what is kept of an instance: for one of a composite module the beginning of the labels that it may come to make, and nothing for one of an atomic module
pub record IsKeptOf (r : RunSeen) (events : List Event) (k : ℕ) : Type 0 where
  pub children : IsExpandedAs r events (name_at r k) (node_at r k).children
  pub composite : IsComposite r.grammar.core (node_at r k).module_no → IsPrefix r.grammar.core events (name_at r k) (node_at r k).bits (node_at r k).chain
  pub atomic : (IsComposite r.grammar.core (node_at r k).module_no → ⊥) → ((node_at r k).bits ≡ []) × ((node_at r k).chain ≡ None)

-- the run is that of these events
pub record IsRunOf (r : RunSeen) (events : List Event) : Type 0 where
  pub accepted : IsAccepted r.grammar.core r.most events
  pub names : r.names ≡ names_of (made r.grammar.core r.grammar.core.start events)
  pub modules : map (λ (n : Node). n.module_no) r.nodes ≡ map (λ (i : Instance). i.module_no) (made r.grammar.core r.grammar.core.start events)
  pub each : (k : ℕ) → k < length r.nodes → IsKeptOf r events k
  pub expands : r.expands ≡ expand_events events

-- what is kept of an instance for the labels that it may come to make
pub record Prefix : Type 0 where
  pub bits : List Bool
  pub chain : Option ℕ

abbrev pub prefix_at : RunSeen → ℕ → Prefix
prefix_at r k = record { bits = (node_at r k).bits; chain = (node_at r k).chain }

-- a run went on: it has the instances that it had, in their order, each with its name, module and prefix, and perhaps more
pub record GoesOn (old new : RunSeen) : Type 0 where
  pub grammar : new.grammar ≡ old.grammar
  pub most : new.most ≡ old.most
  pub names : (more : List (List ℕ)) × (new.names ≡ old.names ++ more)
  pub count : length old.nodes ≤ length new.nodes
  pub modules : (k : ℕ) → k < length old.nodes → (node_at new k).module_no ≡ (node_at old k).module_no
  pub prefixes : (k : ℕ) → k < length old.nodes → prefix_at new k ≡ prefix_at old k
