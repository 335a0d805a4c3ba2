-- The fields of a run, and what they keep.
use Rattle.std.specs.Prelude.{ℕ, zero, suc, ◌<◌, ◌≤◌, ◌-◌, ◌^◌, ◌==◌, cond, List, map, Option, Some, None}
use Rattle.wf_model.specs.Lists.{IsIn, numbers_from}
use Rattle.wf_model.specs.declared.event.Event.{Event}
use Rattle.wf_model.specs.Linear.{IsLinear}
use Rattle.bit_pack.specs.Written.{first_bits, IsWhole}
use Rattle.wf_spec.specs.Held.{HeldGrammar}
use Rattle.wf_run.specs.declared.chain.Chain.{Chain}
use Rattle.wf_run.specs.declared.node.Node.{Node as NodeHeld}
use Rattle.wf_run.specs.Runs.{Node, RunSeen, IsRunOf}

-- the children of an instance, by the number of the first and how many they are; number 0 is that of the root, which is no child
abbrev pub children_of : ℕ → ℕ → Option (List ℕ)
children_of zero count = None
children_of (suc k) count = Some (numbers_from (suc k) count)

-- a chain number, or none, which the largest number of 32 bits stands for
abbrev pub chain_of : Chain → Option ℕ
chain_of c = cond (c.0 == 2 ^ 32 - 1) None (Some c.0)

-- an instance, as contracts see it
abbrev pub node_of : NodeHeld → Node
node_of n = record {
  module_no = n.«module».0;
  children = children_of n.first_child n.children;
  bits = first_bits n.bytes.now n.length;
  chain = chain_of n.chain;
}

-- a run, as contracts see it
abbrev pub run_of : HeldGrammar → ℕ → List (List ℕ) → List NodeHeld → ℕ → RunSeen
run_of g most names nodes expands = record { grammar = g; most = most; names = names; nodes = map node_of nodes; expands = expands }

-- a prefix has fewer than 2^17 bits, which fill its bytes
pub record IsFilledPrefix (n : NodeHeld) : Type 0 where
  pub whole : IsWhole n.bytes.now n.length
  pub few : n.length < 2 ^ 17

-- what the fields of a run keep: the grammar is strictly linear, the bytes of each prefix are filled, and the run is that of some events
pub record IsRunKept (r : RunSeen) (nodes : List NodeHeld) : Type 0 where
  pub linear : IsLinear r.grammar.core
  pub most : r.most ≤ 2 ^ 24
  pub filled : (n : NodeHeld) → IsIn n nodes → IsFilledPrefix n
  pub events : List Event
  pub run : IsRunOf r events
