-- What the fields of a run keep, an expansion later.
use Rattle.std.proofs.Common.{◌≡◌, ℕ, suc, ◌+◌, ◌^◌, ◌<◌, ◌∙◌, false, List, [], ◌∷◌, ◌++◌, map, length, sym, ap, subst, arith}
use Rattle.wf_model.specs.Lists.{IsIn}
use Rattle.wf_model.specs.WellFormed.{IsWellFormed}
use Rattle.wf_model.specs.declared.event.Event.TheVariants.{Expand}
use Rattle.wf_model.specs.Faults.{some_twice}
use Rattle.wf_model.proofs.Lists.{in_at, at_below, at_is, in_map}
use Rattle.bit_pack.specs.Written.{IsWhole}
use Rattle.wf_spec.specs.Held.{HeldGrammar}
use Rattle.wf_run.specs.declared.node.Node.{Node as NodeHeld}
use Rattle.wf_run.specs.Runs.{Node, RunSeen, node_at, name_at, IsRunOf}
use Rattle.wf_run.specs.Nodes.{node_of, run_of, IsRunKept}
use Rattle.wf_run.specs.Opening.{opened_nodes, opened_run}
use Rattle.wf_run.specs.Growing.{held_at, CanOpen}
use Rattle.wf_run.proofs.Whole.{whole_length}
use Rattle.wf_run.proofs.Limits.{prefix_small}
use Rattle.run_faults.proofs.NewNames.{none_twice}
use Rattle.wf_run.proofs.Extending.{opened}

-- a node that fills its bytes has fewer than 2^17 bits where the instances have
few_bits : (r : RunSeen) (nodes : List NodeHeld) → map node_of nodes ≡ r.nodes → ((k : ℕ) → k < length r.nodes → length (node_at r k).bits < 2 ^ 17) → (n : NodeHeld) → IsIn n nodes → IsWhole n.bytes.now n.length → n.length < 2 ^ 17
few_bits r nodes same few n i w =
    let j = in_at (node_of n) r.nodes (subst (IsIn (node_of n)) same (in_map node_of n nodes i)) in
    let s = few j.0 (at_below (node_of n) j.0 r.nodes j.1) in
    subst (λ l. l < 2 ^ 17) (sym (whole_length n.bytes.now n.length w)) (subst (λ (m : Node). length m.bits < 2 ^ 17) (at_is (node_of n) j.0 r.nodes _ j.1) s)

module _ (g : HeldGrammar) (most : ℕ) (names : List (List ℕ)) (nodes after : List NodeHeld) (expands k p : ℕ) (new : List (List ℕ)) (map_is : map node_of after ≡ opened_nodes g.core (map node_of nodes) k p (held_at nodes k) (length new)) where
  pub same_run : run_of g most (names ++ new) after (expands + 1) ≡ opened_run (run_of g most names nodes expands) k p new
  same_run =
      let e : expands + 1 ≡ suc expands = omega arith in
      ap (λ l. record { grammar = g; most = most; names = names ++ new; nodes = l; expands = expands + 1 }) map_is ∙
      ap (λ n. record { grammar = g; most = most; names = names ++ new; nodes = opened_nodes g.core (map node_of nodes) k p (held_at nodes k) (length new); expands = n }) e

  pub kept_after : IsWellFormed g.core → IsRunKept (run_of g most names nodes expands) nodes → CanOpen (run_of g most names nodes expands) k p new → some_twice names new ≡ false →
      ((n : NodeHeld) → IsIn n after → IsWhole n.bytes.now n.length) → IsRunKept (run_of g most (names ++ new) after (expands + 1)) after
  kept_after wf kept opens fresh whole =
      let r = run_of g most names nodes expands in
      let next = opened r kept.events k p new wf kept.run opens.there (opens.left kept.events kept.run ∙ none_twice names new fresh) in
      let few = prefix_small (opened_run r k p new) _ wf next kept.most kept.linear in
      record {
        linear = kept.linear;
        most = kept.most;
        filled = λ n i. record { whole = whole n i; few = few_bits (opened_run r k p new) after map_is few n i (whole n i) };
        events = kept.events ++ Expand (name_at r k) p new ∷ [];
        run = subst (λ q. IsRunOf q (kept.events ++ Expand (name_at r k) p new ∷ [])) (sym same_run) next;
      }
