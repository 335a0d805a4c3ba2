-- The nodes of a run where an instance got its children.
use Rattle.std.proofs.Common.{◌≡◌, ℕ, zero, suc, ◌<◌, ◌^◌, ◌∙◌, ◌⊎◌, List, [], ◌∷◌, ◌++◌, map, length, get_or, set, Option, refl, sym, ap, subst}
use Rattle.std.proofs.Common.{inl, inr, ⊎_elim, arith}
use Rattle.std.specs.Prelude.{IfSome}
use Rattle.std.proofs.lemmas.List.{get_or-map, get_or_append_left, set-append_left, map-set, map-append, length-map}
use Rattle.wf_model.specs.Lists.{IsIn, numbers_from}
use Rattle.wf_model.specs.Grammar.{Grammar}
use Rattle.wf_model.proofs.Lists.{in_append_cases}
use Rattle.wf_model.proofs.Positions.{in_there}
use Rattle.bit_pack.specs.Written.{first_bits, IsWhole}
use Rattle.wf_run.specs.declared.node.Node.{Node as NodeHeld}
use Rattle.wf_run.specs.declared.prefix.PrefixRef.{PrefixRef}
use Rattle.wf_run.specs.Runs.{Node, Prefix}
use Rattle.wf_run.specs.Nodes.{chain_of, node_of, IsFilledPrefix}
use Rattle.wf_run.specs.Opening.{child_node, with_children, opened_nodes}
use Rattle.wf_run.specs.Growing.{prefix_of, held_at, CanGoOn, AddsChildren}

-- the prefix that a node holds, with the chain number that was read
abbrev prefix_in : NodeHeld → Option ℕ → PrefixRef
prefix_in n chain = record { bytes = n.bytes; length = n.length; chain = chain }

-- what contracts see of it
abbrev prefix_seen : Node → Prefix
prefix_seen n = record { bits = n.bits; chain = n.chain }

-- a node with so many children, from this one on
abbrev with_first : NodeHeld → ℕ → ℕ → NodeHeld
with_first n first count = record { bytes = n.bytes; chain = n.chain; length = n.length; first_child = first; «module» = n.module; children = count }

-- which are its children, since the root is no child
with_first_is : (n : NodeHeld) (first count : ℕ) → 0 < first → node_of (with_first n first count) ≡ with_children (node_of n) (numbers_from first count)
with_first_is n zero count h = absurd (omega arith)
with_first_is n (suc k) count h = refl

pub in_set : {A : Type 0} (xs : List A) (k : ℕ) (x y : A) → IsIn x (set xs k y) → (x ≡ y) ⊎ IsIn x xs
in_set [] k x y h = absurd h
in_set (z ∷ xs) zero x y (inl e) = inl e
in_set (z ∷ xs) zero x y (inr h) = inr (inr h)
in_set (z ∷ xs) (suc k) x y (inl e) = inr (inl e)
in_set (z ∷ xs) (suc k) x y (inr h) = ⊎_elim (λ e. inl e) (λ i. inr (inr i)) (in_set xs k x y h)

pub held_read : (xs : List NodeHeld) (k : ℕ) (n : NodeHeld) → k < length xs → n ≡ get_or xs k n → held_at xs k ≡ node_of n
held_read xs k n there is = get_or-map node_of xs k n _ there ∙ ap node_of (sym is)

-- what an instance keeps can go on by a step
pub can_go_on : (xs : List NodeHeld) (k : ℕ) (n : NodeHeld) (chain : Option ℕ) → ((m : NodeHeld) → IsIn m xs → IsFilledPrefix m) →
    IfSome (held_at xs k).chain (λ c. c < 2 ^ 24) → k < length xs → n ≡ get_or xs k n → chain ≡ chain_of n.chain → CanGoOn (prefix_in n chain)
can_go_on xs k n chain filled small there is read =
    let f = filled n (in_there xs k n there is) in
    let same = ap (λ (m : Node). m.chain) (held_read xs k n there is) ∙ sym read in
    record { whole = f.whole; few = f.few; chain = subst (λ o. IfSome o (λ c. c < 2 ^ 24)) same small }

module _ (g : Grammar) (p : ℕ) (old mid : List NodeHeld) (k count first held : ℕ) (n x : NodeHeld) (chain : Option ℕ) (there : k < length old)
    (was : n ≡ get_or old k n) (read : chain ≡ chain_of n.chain) (is : x ≡ get_or mid k x)
    (added : AddsChildren g p (prefix_of (prefix_in n chain)) count old mid) where
  -- the node is the one that it was
  same : x ≡ get_or old k x
  same = is ∙ (ap (λ l. get_or l k x) added.is ∙ get_or_append_left old added.more x k there)

  at_n : held_at old k ≡ node_of n
  at_n = held_read old k n there was

  at_x : held_at old k ≡ node_of x
  at_x = held_read old k x there same

  -- and the children go on from its prefix
  parent : prefix_of (prefix_in n chain) ≡ prefix_seen (held_at old k)
  parent = ap (λ o. record { bits = first_bits n.bytes.now n.length; chain = o }) read ∙ ap prefix_seen (sym at_n)

  children_seen : (total : ℕ) → total ≡ count → map node_of added.more ≡ map (child_node g p (prefix_seen (held_at old k))) (numbers_from 0 total)
  children_seen total one_each =
      added.nodes ∙ (ap (λ i. map (child_node g p (prefix_of (prefix_in n chain))) (numbers_from 0 i)) (sym one_each)
      ∙ ap (λ q. map (child_node g p q) (numbers_from 0 total)) parent)

  node_seen : first ≡ length old → (total : ℕ) → held ≡ total →
      node_of (with_first x first held) ≡ with_children (held_at old k) (numbers_from (length (map node_of old)) total)
  node_seen begins total as_many =
      let some : 0 < first = omega (arith, begins) in
      with_first_is x first held some
      ∙ (ap (λ i. with_children (node_of x) (numbers_from i held)) (begins ∙ sym (length-map old node_of))
      ∙ (ap (λ i. with_children (node_of x) (numbers_from (length (map node_of old)) i)) as_many
      ∙ ap (λ m. with_children m (numbers_from (length (map node_of old)) total)) (sym at_x)))

  pub nodes_opened : first ≡ length old → (total : ℕ) → total ≡ count → held ≡ total →
      map node_of (set mid k (with_first x first held)) ≡ opened_nodes g (map node_of old) k p (held_at old k) total
  nodes_opened begins total one_each as_many =
      let olds = map node_of old in
      let opened = node_of (with_first x first held) in
      let inside : k < length olds = omega (arith, length-map old node_of) in
      map-set node_of mid k (with_first x first held)
      ∙ (ap (λ l. set (map node_of l) k opened) added.is
      ∙ (ap (λ l. set l k opened) (map-append node_of old added.more)
      ∙ (set-append_left olds (map node_of added.more) k opened inside
      ∙ (ap (λ l. set olds k opened ++ l) (children_seen total one_each)
      ∙ ap (λ m. set olds k m ++ map (child_node g p (prefix_seen (held_at old k))) (numbers_from 0 total)) (node_seen begins total as_many)))))

  pub whole_opened : ((m : NodeHeld) → IsIn m old → IsFilledPrefix m) →
      (m : NodeHeld) → IsIn m (set mid k (with_first x first held)) → IsWhole m.bytes.now m.length
  whole_opened filled m i =
      let its = (filled x (in_there old k x there same)).whole in
      ⊎_elim (λ (e : m ≡ with_first x first held). subst (λ (z : NodeHeld). IsWhole z.bytes.now z.length) (sym e) its)
      (λ h. ⊎_elim (λ a. (filled m a).whole) (λ b. added.whole m b) (in_append_cases m old added.more (subst (IsIn m) added.is h)))
      (in_set mid k m (with_first x first held) i)
