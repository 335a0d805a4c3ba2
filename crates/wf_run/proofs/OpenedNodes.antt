-- The instances of a run after one of them was expanded: it goes on.
use Rattle.std.proofs.Common.{◌≡◌, ℕ, ◌+◌, ◌<◌, List, [], map, set, length, get_or, None, refl, ap, sym, subst, ◌∙◌, ⊎_elim, arith, length-append}
use Rattle.std.proofs.lemmas.Bool.{cases_eq}
use Rattle.std.proofs.lemmas.List.{length-map, length-set, get_or_append_left, get_or-append-add, get_or-set_same, get_or-set_other}
use Rattle.wf_model.specs.Lists.{numbers_from}
use Rattle.wf_model.proofs.NumberLists.{length-numbers, get_numbered}
use Rattle.wf_run.specs.Runs.{Node, RunSeen, node_at, prefix_at, GoesOn}
use Rattle.wf_run.specs.Opening.{child_node, with_children, opened_run}

abbrev pub no_node : Node
no_node = record { module_no = 0; children = None; bits = []; chain = None }

module _ (r : RunSeen) (k p : ℕ) (names : List (List ℕ)) where
  abbrev after : RunSeen
  after = opened_run r k p names

  abbrev changed : Node
  changed = with_children (node_at r k) (numbers_from (length r.nodes) (length names))

  abbrev child : ℕ → Node
  child = child_node r.grammar.core p (prefix_at r k)

  pub length-opened : length after.nodes ≡ length r.nodes + length names
  length-opened =
      omega (arith, length-append (set r.nodes k changed) (map child (numbers_from 0 (length names))), length-set r.nodes k changed, length-map (numbers_from 0 (length names)) child, length-numbers 0 (length names))

  left : (j : ℕ) → j < length r.nodes → node_at after j ≡ get_or (set r.nodes k changed) j no_node
  left j h = get_or_append_left (set r.nodes k changed) (map child (numbers_from 0 (length names))) no_node j (let l = length-set r.nodes k changed in omega arith)

  -- the instance that was expanded
  pub node_expanded : k < length r.nodes → node_at after k ≡ changed
  node_expanded h = left k h ∙ get_or-set_same r.nodes k changed no_node h

  -- another instance that was there
  pub node_other : (j : ℕ) → j < length r.nodes → (j ≡ k → ⊥) → node_at after j ≡ node_at r j
  node_other j h d = left j h ∙ get_or-set_other r.nodes k j changed no_node d

  -- a child
  pub node_new : (i : ℕ) → i < length names → node_at after (length r.nodes + i) ≡ child i
  node_new i h =
      ap (λ n. node_at after (n + i)) (sym (length-set r.nodes k changed))
      ∙ (get_or-append-add (set r.nodes k changed) (map child (numbers_from 0 (length names))) i no_node ∙ (get_numbered child 0 (length names) i no_node h ∙ ap child (let z : 0 + i ≡ i = omega arith in z)))

  pub opened_goes_on : GoesOn r after
  opened_goes_on = record {
    grammar = refl;
    most = refl;
    names = (names, refl);
    count = omega (arith, length-opened);
    modules = λ j h. same (λ n. n.module_no) refl j h;
    prefixes = λ j h. same (λ n. record { bits = n.bits; chain = n.chain }) refl j h;
  }
    where
      same : {A : Type 0} (f : Node → A) → f changed ≡ f (node_at r k) → (j : ℕ) → j < length r.nodes → f (node_at after j) ≡ f (node_at r j)
      same f e j h = ⊎_elim (λ s. subst (λ z. f (node_at after z) ≡ f (node_at r z)) (sym s) (ap f (node_expanded (subst (λ z. z < length r.nodes) s h)) ∙ e)) (λ d. ap f (node_other j h d)) (cases_eq j k)
