-- How large the numbers of a run can be.
use Rattle.std.proofs.Common.{◌≡◌, ℕ, ◌-◌, ◌^◌, ◌<◌, ◌≤◌, Bool, true, false, List, [], length, Some, None, refl, sym, subst, ◌∙◌, true≢false, arith}
use Rattle.wf_model.specs.Lists.{IsIn}
use Rattle.wf_model.specs.WellFormed.{IsWellFormed}
use Rattle.wf_model.specs.Linear.{IsLinear}
use Rattle.wf_model.specs.declared.event.Event.{Event}
use Rattle.wf_model.specs.Run.{IsAccepted}
use Rattle.wf_model.proofs.Lists.{at_in}
use Rattle.label_model.proofs.AcceptedLabels.{made_long, run_long}
use Rattle.wf_model.proofs.Composites.{composite_gives, composite_is}
use Rattle.label_model.proofs.PrefixRoom.{chain_within, prefix_below}
use Rattle.wf_run.specs.Runs.{RunSeen, node_at, name_at, IsRunOf}
use Rattle.wf_run.proofs.NamedInstances.{instance_of, instances_of, same_count, instance_at}
use Rattle.wf_model.specs.Composite.{is_composite}

module _ (r : RunSeen) (events : List Event) (wf : IsWellFormed r.grammar.core) (run : IsRunOf r events) where
  pub nodes_within : length r.nodes ≤ r.most
  nodes_within = omega (arith, same_count r events run, run.accepted.1)

  -- each expand event makes an instance
  pub expands_within : r.expands ≤ length r.nodes
  expands_within = omega (arith, run.expands, made_long r.grammar.core wf r.grammar.core.start events [] run.accepted.0, same_count r events run)

  pub expands_small : r.most ≤ 2 ^ 24 → r.expands < 2 ^ 32 - 1
  expands_small h = omega (arith, h, nodes_within, expands_within)

  instance_in : (k : ℕ) → k < length r.nodes → IsIn (instance_of (name_at r k) (node_at r k).module_no) (instances_of r events)
  instance_in k h = at_in (instance_of (name_at r k) (node_at r k).module_no) k (instances_of r events) (instance_at r events run k h)

  -- the start makes one more
  pub expands_below : (k : ℕ) → k < length r.nodes → r.expands < length r.nodes
  expands_below k h = omega (arith, run.expands, run_long r.grammar.core wf r.grammar.core.start events _ run.accepted.0 (instance_in k h), same_count r events run)

  -- a chain number is no larger than the number of expand events
  pub chain_least : (k : ℕ) → k < length r.nodes → (c : ℕ) → (node_at r k).chain ≡ Some c → c ≤ r.expands
  chain_least k h c e = go (is_composite r.grammar.core (node_at r k).module_no) refl
    where
      go : (t : Bool) → is_composite r.grammar.core (node_at r k).module_no ≡ t → c ≤ r.expands
      go true t =
          let low = chain_within r.grammar.core events (name_at r k) (node_at r k).bits (node_at r k).chain ((run.each k h).composite (composite_gives r.grammar.core (node_at r k).module_no t)) c e in
          omega (arith, low, run.expands)
      go false t =
          let n = ((run.each k h).atomic (λ d. true≢false (sym (composite_is r.grammar.core (node_at r k).module_no d) ∙ t))).1 in
          let z : None ≡ Some c = sym n ∙ e in
          absurd (cc)

  module _ (few : r.most ≤ 2 ^ 24) where
    pub chain_small : (k : ℕ) → k < length r.nodes → (c : ℕ) → (node_at r k).chain ≡ Some c → c < 2 ^ 24
    chain_small k h c e = omega (arith, few, chain_least k h c e, expands_below k h, nodes_within)

    -- the bits that are kept of an instance
    pub prefix_small : IsLinear r.grammar.core → (k : ℕ) → k < length r.nodes → length (node_at r k).bits < 2 ^ 17
    prefix_small lin k h = go (is_composite r.grammar.core (node_at r k).module_no) refl
      where
        acc : IsAccepted r.grammar.core (2 ^ 24) events
        acc = (run.accepted.0, (let w = run.accepted.1 in omega arith), run.accepted.2)

        go : (t : Bool) → is_composite r.grammar.core (node_at r k).module_no ≡ t → length (node_at r k).bits < 2 ^ 17
        go true t =
            prefix_below r.grammar.core wf lin events acc (instance_of (name_at r k) (node_at r k).module_no) (instance_in k h) t (node_at r k).bits (node_at r k).chain
            ((run.each k h).composite (composite_gives r.grammar.core (node_at r k).module_no t))
        go false t =
            let n = ((run.each k h).atomic (λ d. true≢false (sym (composite_is r.grammar.core (node_at r k).module_no d) ∙ t))).0 in
            subst (λ b. length b < 2 ^ 17) (sym n) (omega arith)
