-- The instances of links are those of the table.
use Rattle.std.proofs.Common.{◌≡◌, ℕ, ◌+◌, ◌<◌, ◌≤◌, ◌^◌, ◌%◌, Bool, true, false, cond, List, [], ◌∷◌, ◌++◌, map, get_or, Option, Some, None, refl, sym, subst, arith, inl, inr, ⊎_elim}
use Rattle.std.specs.Prelude.{◌==◌}
use Rattle.std.specs.Int.{bit_at}
use Rattle.std.proofs.Math.Nat.{mod-eq_of_lt}
use Rattle.wf_model.specs.Lists.{IsIn, numbers_from}
use Rattle.wf_model.specs.Grammar.{Grammar, Production, Edge, Inner, inputs_of, outputs_of}
use Rattle.wf_model.proofs.Lists.{in_append_cases, in_map_from, in_flat_map_from}
use Rattle.wf_flat.specs.declared.graph.Link.{Link}
use Rattle.wf_flat.specs.Graph.{pair, row_links, matrix_links, edge_at, entries_at, exits_at, wiring_at, pairs_by}
use Rattle.wf_flat.specs.Flat.{AreWithin}
use Rattle.wf_flat.proofs.OfInstance.{AreBelow}

within_append : (n : ℕ) (xs ys : List Link) → AreWithin n xs → AreWithin n ys → AreWithin n (xs ++ ys)
within_append n xs ys h k l i = ⊎_elim (λ a. h l a) (λ a. k l a) (in_append_cases l xs ys i)

child_within : (first count n p : ℕ) → p < count → first + count ≤ n → n < 2 ^ 32 → (first + p) % 2 ^ 32 < n
child_within first count n p h room small =
    let low : first + p < 2 ^ 32 = omega arith in
    let e = mod-eq_of_lt low in
    subst (λ z. z < n) (sym e) (omega arith)

module _ (k first count n : ℕ) (here : k < n) (room : first + count ≤ n) (small : n < 2 ^ 32) where
  edges_within : (es : List Edge) → ((e : Edge) → IsIn e es → (e.from.position < count) × (e.to.position < count)) → AreWithin n (map (edge_at first) es)
  edges_within es h l i =
      let r = in_map_from (edge_at first) l es i in
      let b = h r.0 r.1 in
      subst (λ (z : Link). (z.from.instance < n) × (z.to.instance < n)) (sym r.2) (child_within first count n r.0.from.position b.0 room small, child_within first count n r.0.to.position b.1 room small)

  entries_within : (j : ℕ) (is : List Inner) → ((i : Inner) → IsIn i is → i.position < count) → AreWithin n (entries_at k first j is)
  entries_within j [] h l i = absurd i
  entries_within j (x ∷ is) h l (inl e) = subst (λ (z : Link). (z.from.instance < n) × (z.to.instance < n)) (sym e) (here, child_within first count n x.position (h x (inl refl)) room small)
  entries_within j (x ∷ is) h l (inr i) = entries_within (j + 1) is (λ z q. h z (inr q)) l i

  exits_within : (j : ℕ) (is : List Inner) → ((i : Inner) → IsIn i is → i.position < count) → AreWithin n (exits_at k first j is)
  exits_within j [] h l i = absurd i
  exits_within j (x ∷ is) h l (inl e) = subst (λ (z : Link). (z.from.instance < n) × (z.to.instance < n)) (sym e) (child_within first count n x.position (h x (inl refl)) room small, here)
  exits_within j (x ∷ is) h l (inr i) = exits_within (j + 1) is (λ z q. h z (inr q)) l i

  pub wiring_within : (r : Production) → AreBelow count r → AreWithin n (wiring_at k first r)
  wiring_within r below =
      within_append n (map (edge_at first) r.edges) (entries_at k first 0 r.entries ++ exits_at k first 0 r.exits) (edges_within r.edges below.edges)
      (within_append n (entries_at k first 0 r.entries) (exits_at k first 0 r.exits) (entries_within 0 r.entries below.entries) (exits_within 0 r.exits below.exits))

module _ (k : ℕ) where
  -- a pair of a matrix
  pub pair_in : (rows : List ℕ) (outputs inputs : ℕ) (l : Link) → IsIn l (matrix_links k rows outputs 0 inputs) →
      (i o : ℕ) × IsIn i (numbers_from 0 inputs) × IsIn o (numbers_from 0 outputs) × (bit_at (get_or rows i 0) o == 1 ≡ true) × (l ≡ pair k i o)
  pair_in rows outputs inputs l h =
      let r = in_flat_map_from (λ j. row_links k j (get_or rows j 0) 0 outputs) l (numbers_from 0 inputs) h in
      let q = in_flat_map_from (λ j. cond (bit_at (get_or rows r.0 0) j == 1) (pair k r.0 j ∷ []) []) l (numbers_from 0 outputs) r.2 in
      let s = one (bit_at (get_or rows r.0 0) q.0 == 1) r.0 q.0 refl q.2 in
      (r.0, q.0, r.1, q.1, s.0, s.1)
    where
      one : (b : Bool) (i o : ℕ) → bit_at (get_or rows i 0) o == 1 ≡ b → IsIn l (cond b (pair k i o ∷ []) []) → (bit_at (get_or rows i 0) o == 1 ≡ true) × (l ≡ pair k i o)
      one true i o e (inl d) = (e, d)
      one true i o e (inr z) = absurd z
      one false i o e z = absurd z

  pub pairs_within : (n : ℕ) → k < n → (g : Grammar) (m : ℕ) (o : Option (List ℕ)) → AreWithin n (pairs_by g m k o)
  pairs_within n h g m None l i = absurd i
  pairs_within n h g m (Some rows) l i = let r = pair_in rows (outputs_of g m) (inputs_of g m) l i in subst (λ (z : Link). (z.from.instance < n) × (z.to.instance < n)) (sym r.5) (h, h)
