-- Each lifted port stands in a list of lifted ports as often as the port stands in the list.
use Rattle.std.proofs.Common.{◌≡◌, ℕ, ◌<◌, Bool, true, false, cond, List, [], ◌∷◌, ◌++◌, map, flat_map, count_by, eqb, refl, sym, ap, ◌∙◌, arith, true≢false}
use Rattle.std.proofs.lemmas.Nat.{same_from_place}
use Rattle.std.proofs.lemmas.List.Concat.{flat_map-append}
use Rattle.std.proofs.lemmas.Bool.{false_from_ne_true, and_parts, and_from, eqb-true, eq-eqb}
use Rattle.wf_model.specs.Lists.{numbers_from}
use Rattle.wf_model.specs.Grammar.{Inner, Edge}
use Rattle.wf_model.specs.WellFormed.{same_inner}
use Rattle.wf_model.proofs.Mapping.{map-flat_map}
use Rattle.label_model.proofs.Differing.{numbers_differ}
use Rattle.words_model.specs.Lifting.{in_state, lift_inner, lift_edge, edge_states, inner_states}
use Rattle.words_model.proofs.Counts.{count_more, count-append, count-map, count_none, count_one}
use Rattle.words_model.proofs.States.{are_states}

same_inner_parts : (i j : Inner) → same_inner i j ≡ true → (i.position ≡ j.position) × (i.port ≡ j.port)
same_inner_parts i j h = let q = and_parts (eqb i.position j.position) (eqb i.port j.port) h in (eqb-true i.position j.position q.0, eqb-true i.port j.port q.1)

same_inner_from : (i j : Inner) → i.position ≡ j.position → i.port ≡ j.port → same_inner i j ≡ true
same_inner_from i j p q = and_from (eqb i.position j.position) (eqb i.port j.port) (eq-eqb i.position j.position p) (eq-eqb i.port j.port q)

module _ (k : ℕ) where
  -- among the states of one port
  one_port : (i j : Inner) (s : ℕ) → s < k → count_by (same_inner (lift_inner k s i)) (inner_states k j) ≡ cond (same_inner i j) 1 0
  one_port i j s hs = count-map (same_inner (lift_inner k s i)) (λ t. lift_inner k t j) (numbers_from 0 k) ∙ go (same_inner i j) refl
    where
      parts : (t : ℕ) → t < k → same_inner (lift_inner k s i) (lift_inner k t j) ≡ true → (i.position ≡ j.position) × (i.port ≡ j.port) × (s ≡ t)
      parts t ht h =
          let q = same_inner_parts (lift_inner k s i) (lift_inner k t j) h in
          let r = same_from_place i.port s j.port t k hs ht q.1 in
          (q.0, r.0, r.1)

      go : (b : Bool) → same_inner i j ≡ b → count_by (λ t. same_inner (lift_inner k s i) (lift_inner k t j)) (numbers_from 0 k) ≡ cond (same_inner i j) 1 0
      go false e =
          count_none (λ t. same_inner (lift_inner k s i) (lift_inner k t j)) (numbers_from 0 k)
          (λ t q. false_from_ne_true (same_inner (lift_inner k s i) (lift_inner k t j)) (λ w. let r = parts t ((are_states k t).0 q) w in
          true≢false (sym (same_inner_from i j r.0 r.1) ∙ e)))
          ∙ sym (ap (λ z. cond {A = ℕ} z 1 0) e)
      go true e =
          let q = same_inner_parts i j e in
          count_one (λ t. same_inner (lift_inner k s i) (lift_inner k t j)) s (numbers_from 0 k) (numbers_differ 0 k) ((are_states k s).1 hs)
          (same_inner_from (lift_inner k s i) (lift_inner k s j) q.0 (ap (in_state k s) q.1))
          (λ t z w. sym (parts t ((are_states k t).0 z) w).2) ∙ sym (ap (λ z. cond {A = ℕ} z 1 0) e)

  -- among those of many
  ports : (i : Inner) (s : ℕ) → s < k → (js : List Inner) → count_by (same_inner (lift_inner k s i)) (flat_map (inner_states k) js) ≡ count_by (same_inner i) js
  ports i s hs [] = refl
  ports i s hs (j ∷ js) =
      let rest = flat_map (inner_states k) js in
      let a = count-append (same_inner (lift_inner k s i)) (inner_states k j) rest in
      let b = one_port i j s hs in
      let c = ports i s hs js in
      let d = count_more (same_inner i) j js in
      omega arith

  -- the ports at one end of lifted edges
  ends : (f : Edge → Inner) → ((s : ℕ) (e : Edge) → f (lift_edge k s e) ≡ lift_inner k s (f e)) → (es : List Edge) → map f (flat_map (edge_states k) es) ≡ flat_map (inner_states k) (map f es)
  ends f h [] = refl
  ends f h (e ∷ es) =
      map-flat_map f (edge_states k) (e ∷ es) ∙
      (ap (λ l. l ++ flat_map (λ x. map f (edge_states k x)) es) (one (numbers_from 0 k)) ∙
      ap (λ l. inner_states k (f e) ++ l) (sym (map-flat_map f (edge_states k) es) ∙ ends f h es))
    where
      one : (ns : List ℕ) → map f (map (λ s. lift_edge k s e) ns) ≡ map (λ s. lift_inner k s (f e)) ns
      one [] = refl
      one (n ∷ ns) = ap (λ z. z ∷ map f (map (λ s. lift_edge k s e) ns)) (h n e) ∙ ap (λ z. lift_inner k n (f e) ∷ z) (one ns)

  -- at one end of the edges of a body, and among its entries or exits
  pub as_often : (f : Edge → Inner) → ((s : ℕ) (e : Edge) → f (lift_edge k s e) ≡ lift_inner k s (f e)) → (es : List Edge) (is : List Inner) (i : Inner) (s : ℕ) → s < k →
      count_by (same_inner (lift_inner k s i)) (map f (flat_map (edge_states k) es) ++ flat_map (inner_states k) is) ≡ count_by (same_inner i) (map f es ++ is)
  as_often f h es is i s hs =
      ap (λ l. count_by (same_inner (lift_inner k s i)) (l ++ flat_map (inner_states k) is)) (ends f h es) ∙
      (ap (count_by (same_inner (lift_inner k s i))) (sym (flat_map-append (inner_states k) (map f es) is)) ∙
      ports i s hs (map f es ++ is))
