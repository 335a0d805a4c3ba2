-- A run after a start event and after an expand event.
use Rattle.std.specs.Prelude.{ℕ, suc, true, ◌+◌, cond, List, [], ◌∷◌, ◌++◌, map, set, length, Some, None, option_map}
use Rattle.wf_model.specs.Lists.{numbers_from}
use Rattle.wf_model.specs.Grammar.{Grammar, head_of, alternative_of}
use Rattle.wf_model.specs.Reach.{Step, target_of}
use Rattle.label_model.specs.Continuing.{continues}
use Rattle.label_model.specs.Labels.{step_bits}
use Rattle.label_model.specs.Places.{chain_at}
use Rattle.wf_run.specs.Runs.{Node, Prefix, RunSeen, node_at}
use Rattle.wf_model.specs.Composite.{is_composite}

-- the prefix that a step gives to a child of an instance with this prefix: by the continuing step the parent's, with a chain number one higher; by any other the parent's and the bits of the step, and the chain begins
abbrev pub prefix_by : Grammar → Step → Prefix → Prefix
prefix_by g s parent =
    cond (continues g (head_of g s.production) s)
    (record { bits = parent.bits; chain = option_map (λ c. c + 1) parent.chain })
    (record { bits = parent.bits ++ step_bits (record { chain = parent.chain; alternative = alternative_of g s.production; position = s.position }); chain = chain_at g (target_of g s) 0 })

-- the prefix of a child; a child of an atomic module makes no items, and has none
abbrev pub child_prefix : Grammar → Step → Prefix → Prefix
child_prefix g s parent = cond (is_composite g (target_of g s)) (prefix_by g s parent) (record { bits = []; chain = None })

-- an instance of this module and prefix, not expanded
abbrev pub closed_node : ℕ → Prefix → Node
closed_node m p = record { module_no = m; children = None; bits = p.bits; chain = p.chain }

-- the child at position j of an instance with this prefix, which is expanded by production p
abbrev pub child_node : Grammar → ℕ → Prefix → ℕ → Node
child_node g p parent j = let s : Step = record { production = p; position = j } in closed_node (target_of g s) (child_prefix g s parent)

-- an instance with these children
abbrev pub with_children : Node → List ℕ → Node
with_children n ks = record { module_no = n.module_no; children = Some ks; bits = n.bits; chain = n.chain }

-- the instances after instance k was expanded by production p, into as many as this
abbrev pub opened_nodes : Grammar → List Node → ℕ → ℕ → Node → ℕ → List Node
opened_nodes g nodes k p n count =
    set nodes k (with_children n (numbers_from (length nodes) count)) ++
    map (child_node g p (record { bits = n.bits; chain = n.chain })) (numbers_from 0 count)

-- the run after instance k was expanded by production p with these names
abbrev pub opened_run : RunSeen → ℕ → ℕ → List (List ℕ) → RunSeen
opened_run r k p names = record {
  grammar = r.grammar;
  most = r.most;
  names = r.names ++ names;
  nodes = opened_nodes r.grammar.core r.nodes k p (node_at r k) (length names);
  expands = suc r.expands;
}

-- the prefix of the root, which has the first bit of the label of an edge; of an atomic module it has none
abbrev pub root_prefix : Grammar → Prefix
root_prefix g = cond (is_composite g g.start) (record { bits = true ∷ []; chain = chain_at g g.start 0 }) (record { bits = []; chain = None })

-- the run after its start
abbrev pub started_run : RunSeen → List ℕ → RunSeen
started_run r name = record {
  grammar = r.grammar;
  most = r.most;
  names = name ∷ [];
  nodes = closed_node r.grammar.core.start (root_prefix r.grammar.core) ∷ [];
  expands = r.expands;
}
