-- What a grammar derives, which of its modules are composite, and which have a rank: each is so, or not.
use Rattle.std.proofs.Common.{◌≡◌, ◌⊎◌, ℕ, zero, suc, ◌<◌, List, length, map, sym, ap, subst, inl, inr, ⊎_elim, arith}
use Rattle.std.specs.List.{flat_map}
use Rattle.wf_model.specs.Lists.{IsIn, numbers_from}
use Rattle.wf_model.specs.Grammar.{Grammar, head_of, body_of, IsAtomic, IsComposite, IsProductionOf}
use Rattle.wf_model.specs.WellFormed.{IsWellFormed}
use Rattle.wf_model.specs.Proper.{Makes, Derives, RankWithin}
use Rattle.wf_model.proofs.Lists.{in_map, in_map_from, in_flat_map, in_flat_map_from}
use Rattle.wf_model.proofs.Level.{in_numbers, numbers_in}
use Rattle.wf_model.proofs.Composites.{composite_below}
use Rattle.wf_model.proofs.Deciding.{Either, either_same, either_not, either_both, either_one, number_either, some_below, all_below, all_in, first_below, walk_either}
use Rattle.wf_model.proofs.Settling.{settles}
use Rattle.wf_check.specs.Improper.{IsProductive, IsLeastWithout, OfAllComposite}
use Rattle.wf_check.proofs.Rounds.{rank_more}

module _ (g : Grammar) where
  -- from the head of a production to each module of its body
  abbrev edges_by : ℕ → List (ℕ × ℕ)
  edges_by p = map (λ b. (head_of g p, b)) (body_of g p)

  abbrev edges : List (ℕ × ℕ)
  edges = flat_map edges_by (numbers_from 0 (length g.productions))

  edge_makes : (a b : ℕ) → IsIn (a, b) edges → Makes g a b
  edge_makes a b h =
      let r = in_flat_map_from edges_by (a, b) (numbers_from 0 (length g.productions)) h in
      let l : r.0 < length g.productions = let z = in_numbers r.0 0 (length g.productions) r.1 in omega arith in
      let q = in_map_from (λ c. (head_of g r.0, c)) (a, b) (body_of g r.0) r.2 in
      (r.0, (l, sym (ap (λ (x : ℕ × ℕ). x.0) q.2)), subst (λ c. IsIn c (body_of g r.0)) (sym (ap (λ (x : ℕ × ℕ). x.1) q.2)) q.1)

  makes_edge : (a b : ℕ) → Makes g a b → IsIn (a, b) edges
  makes_edge a b h =
      let l = h.1.0 in
      in_flat_map edges_by h.0 (a, b) (numbers_from 0 (length g.productions)) (numbers_in h.0 0 (length g.productions) (omega arith) (omega arith))
      (subst (λ c. IsIn (c, b) (edges_by h.0)) h.1.1 (in_map (λ c. (head_of g h.0, c)) b (body_of g h.0) h.2))

  -- a module derives another, or not
  pub derives_either : (a b : ℕ) → Either (Derives g a b)
  derives_either = walk_either number_either (Makes g) edges edge_makes makes_edge

  pub production_either : (p m : ℕ) → p < length g.productions → Either (IsProductionOf g p m)
  production_either p m l = either_same (λ e. (l, e)) (λ h. h.1) (number_either (head_of g p) m)

  pub composite_either : (m : ℕ) → Either (IsComposite g m)
  composite_either m = either_same (λ r. (r.0, r.2)) (λ h. (h.0, h.1.0, h.1)) (some_below (λ p. IsProductionOf g p m) (length g.productions) (λ p l. production_either p m l))

  pub atomic_either : (m : ℕ) → Either (IsAtomic g m)
  atomic_either m = all_below (λ p. head_of g p ≡ m → ⊥) (length g.productions) (λ p l. either_not (number_either (head_of g p) m))

  -- a module has a rank of at most this number, or not
  pub rank_either : (n m : ℕ) → Either (RankWithin g n m)
  rank_either zero m = atomic_either m
  rank_either (suc n) m = either_one (atomic_either m) (by_body (λ k. rank_either n k))
    where
      by_body : ((k : ℕ) → Either (RankWithin g n k)) → Either ((p : ℕ) × IsProductionOf g p m × ((k : ℕ) → IsIn k (body_of g p) → RankWithin g n k))
      by_body lower = either_same (λ r. (r.0, r.2.0, r.2.1)) (λ h. (h.0, h.1.0, (h.1, h.2)))
          (some_below (λ p. IsProductionOf g p m × ((k : ℕ) → IsIn k (body_of g p) → RankWithin g n k)) (length g.productions) (λ p l. either_both (production_either p m l) (all_in (RankWithin g n) (body_of g p) (λ k i. lower k))))

  -- a composite module is the least without something, or all composite modules have it
  pub least_or_all : IsWellFormed g → (Holds : ℕ → Type 0) → ((m : ℕ) → Either (Holds m)) → OfAllComposite g Holds ⊎ ((m : ℕ) × IsLeastWithout g Holds m)
  least_or_all formed Holds either = ⊎_elim
      (λ r. inr (r.0, record { composite = r.2.so.0; fails = r.2.so.1; before = λ k l c. or_not (either k) (λ n. r.2.before k l (c, n)) }))
      (λ none. inl (λ m c. or_not (either m) (λ n. none m (composite_below g formed m c) (c, n))))
      (first_below (λ m. IsComposite g m × (Holds m → ⊥)) (length g.modules) (λ m l. either_both (composite_either m) (either_not (either m))))
    where
      or_not : {P : Type 0} → Either P → ((P → ⊥) → ⊥) → P
      or_not (inl p) never = p
      or_not (inr n) never = absurd (never n)

  module _ (formed : IsWellFormed g) where
    -- a module that no rule expands has a rank; so all are below the number of modules
    rank_of_all : (n : ℕ) → ((m : ℕ) → m < length g.modules → RankWithin g (suc n) m → RankWithin g n m) → (m : ℕ) → RankWithin g (suc n) m → RankWithin g n m
    rank_of_all n closed m (inl atomic) = rank_more g 0 n m (omega arith) atomic
    rank_of_all n closed m (inr h) = closed m (composite_below g formed m (h.0, h.1)) (inr h)

    -- where one more production ranks no more modules, no more are ranked by any number of them
    rank_stays : (n : ℕ) → ((m : ℕ) → RankWithin g (suc n) m → RankWithin g n m) → (j m : ℕ) → RankWithin g j m → RankWithin g n m
    rank_stays n closed zero m atomic = rank_more g 0 n m (omega arith) atomic
    rank_stays n closed (suc j) m (inl atomic) = rank_more g 0 n m (omega arith) atomic
    rank_stays n closed (suc j) m (inr h) = closed m (inr (h.0, h.1, λ k i. rank_stays n closed j k (h.2 k i)))

    -- a module has an expansion that ends, or not
    pub productive_either : (m : ℕ) → Either (IsProductive g m)
    productive_either m =
        let s = settles (RankWithin g) rank_either (λ n k. rank_more g n (suc n) k (omega arith)) (length g.modules) in
        either_same (λ r. (s.0, r)) (λ h. rank_stays s.0 (rank_of_all s.0 s.1) h.0 m h.1) (rank_either s.0 m)
