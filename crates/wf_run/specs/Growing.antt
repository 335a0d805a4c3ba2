-- What an expansion adds to the nodes of a run.
use Rattle.std.specs.Prelude.{◌≡◌, ℕ, ◌<◌, ◌≤◌, ◌+◌, ◌^◌, List, [], ◌++◌, map, length, get_or, position, bytes_eq, Option, None, option_map, IfSome}
use Rattle.wf_model.specs.Lists.{IsIn, numbers_from}
use Rattle.wf_model.specs.Grammar.{Grammar, body_of}
use Rattle.wf_model.specs.declared.event.Event.{Event}
use Rattle.wf_model.specs.declared.event.Event.TheVariants.{Expand}
use Rattle.wf_model.specs.declared.event.RunFault.{RunFault}
use Rattle.wf_model.specs.Faults.{fault_of}
use Rattle.bit_pack.specs.Written.{first_bits, IsWhole}
use Rattle.run_faults.specs.declared.expand.Found.{Found}
use Rattle.run_faults.specs.Standing.{Fits, IsFound}
use Rattle.wf_run.specs.declared.node.Node.{Node as NodeHeld}
use Rattle.wf_run.specs.declared.node.NodeNo.{NodeNo}
use Rattle.wf_run.specs.declared.prefix.PrefixRef.{PrefixRef}
use Rattle.wf_run.specs.Runs.{Node, Prefix, RunSeen, name_at, IsRunOf}
use Rattle.run_faults.specs.NewNames.{twice_fault}
use Rattle.wf_run.specs.Nodes.{node_of}
use Rattle.wf_run.specs.Opening.{child_node, opened_nodes}

-- a prefix, as contracts see it
abbrev pub prefix_of : PrefixRef → Prefix
prefix_of p = record { bits = first_bits p.bytes.now p.length; chain = p.chain }

-- a prefix to which a step more can be added: its bytes are filled with fewer than 2^17 bits, and its chain number is below 2^24
pub record CanGoOn (p : PrefixRef) : Type 0 where
  pub whole : IsWhole p.bytes.now p.length
  pub few : p.length < 2 ^ 17
  pub chain : IfSome p.chain (λ c. c < 2 ^ 24)

-- the instance of a number
abbrev pub held_at : List NodeHeld → ℕ → Node
held_at nodes k = get_or (map node_of nodes) k (record { module_no = 0; children = None; bits = []; chain = None })

-- the nodes of the children at the first positions, so many, of an instance with this prefix were added; each has bytes that are filled
pub record AddsChildren (g : Grammar) (p : ℕ) (parent : Prefix) (count : ℕ) (old new : List NodeHeld) : Type 0 where
  pub more : List NodeHeld
  pub is : new ≡ old ++ more
  pub nodes : map node_of more ≡ map (child_node g p parent) (numbers_from 0 count)
  pub whole : (n : NodeHeld) → IsIn n more → IsWhole n.bytes.now n.length

-- so of all children of an instance with this prefix that production p makes
abbrev pub AddsAllChildren : Grammar → ℕ → PrefixRef → List NodeHeld → List NodeHeld → Type 0
AddsAllChildren g p parent old new = AddsChildren g p (prefix_of parent) (length (body_of g p)) old new

-- the nodes after instance k was expanded by production p into as many as this
abbrev pub AreOpenedNodes : Grammar → ℕ → ℕ → ℕ → List NodeHeld → List NodeHeld → Type 0
AreOpenedNodes g k p count old new = map node_of new ≡ opened_nodes g (map node_of old) k p (held_at old k) count

-- what the faults of an event depend on was found of an instance that was looked up, whatever its name is
abbrev pub FindsInstance : RunSeen → Option NodeNo → Option Found → Type 0
FindsInstance r n found =
    (events : List Event) (name : List ℕ) → IsRunOf r events → option_map (λ (n : NodeNo). n.0) n ≡ position (bytes_eq name) r.names → IsFound r.grammar.core events name found

-- why the event is refused that expands the instance of a name by production p with these names, whatever the events of the run were
abbrev pub IsExpandFault : RunSeen → List ℕ → ℕ → List (List ℕ) → Option RunFault → Type 0
IsExpandFault r name p names fault = (events : List Event) → IsRunOf r events → fault_of r.grammar.core r.most events (Expand name p names) ≡ fault

-- the same of each name by which this number of an instance, or none, is found
abbrev pub IsFaultAt : RunSeen → Option NodeNo → ℕ → List (List ℕ) → Option RunFault → Type 0
IsFaultAt r n p names fault = (name : List ℕ) → option_map (λ (n : NodeNo). n.0) n ≡ position (bytes_eq name) r.names → IsExpandFault r name p names fault

-- instance k of a run is there, production p has a position for each of these names, there is room for as many instances, and the event that expands the instance so is refused for no more than a name that is taken
pub record CanOpen (r : RunSeen) (k p : ℕ) (names : List (List ℕ)) : Type 0 where
  pub there : k < length r.nodes
  pub fits : Fits r.grammar.core p names
  pub room : length r.nodes + length names ≤ r.most
  pub left : IsExpandFault r (name_at r k) p names (twice_fault r.names names)
