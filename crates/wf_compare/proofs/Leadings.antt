-- The steps of a module: which they are, and their order.
use Rattle.std.proofs.Common.{◌≡◌, ℕ, zero, suc, ◌<◌, ◌≤◌, ◌==◌, List, [], ◌∷◌, map, flat_map, length, refl, sym, subst, inl, inr, arith}
use Rattle.wf_model.specs.Lists.{IsIn, numbers_from}
use Rattle.wf_model.specs.Steps.{step_of}
use Rattle.wf_model.specs.Grammar.{Grammar, head_of, body_of, IsProductionOf}
use Rattle.wf_model.proofs.Lists.{in_map, in_map_from, in_flat_map, in_flat_map_from}
use Rattle.wf_model.proofs.Level.{in_numbers, numbers_in}
use Rattle.wf_model.proofs.NumberLists.{from_first}
use Rattle.wf_model.proofs.Rising.{IsRising, rising_head, rising_tail, numbers_rise}
use Rattle.wf_spec.specs.Tables.{productions_of}
use Rattle.wf_spec.proofs.Heads.{headed_gives, headed_from}
use Rattle.compare_model.specs.Routes.{IsEarlier}
use Rattle.wf_compare.specs.declared.steps.Leading.{Leading}
use Rattle.wf_compare.specs.Steps.{leading_at, leadings_by, leadings_of}
use Rattle.wf_compare.proofs.Ordered.{IsOrdered, ordered-append}

-- where a step leads
abbrev pub target_no : Leading → ℕ
target_no e = e.target.0

-- the one step comes before the other
abbrev pub Precedes : Leading → Leading → Type 0
Precedes e f = IsEarlier (step_of e.step) (step_of f.step)

module _ (g : Grammar) where
  by_from : (p : ℕ) (e : Leading) → IsIn e (leadings_by g p) → (k : ℕ) × (k < length (body_of g p)) × (e ≡ leading_at g p k)
  by_from p e i =
      let r = in_map_from (leading_at g p) e (numbers_from 0 (length (body_of g p))) i in
      let l = in_numbers r.0 0 (length (body_of g p)) r.1 in
      (r.0, omega arith, r.2)

  pub leading_from : (m : ℕ) (e : Leading) → IsIn e (leadings_of g m) → (p : ℕ) × (k : ℕ) × IsProductionOf g p m × (k < length (body_of g p)) × (e ≡ leading_at g p k)
  leading_from m e i =
      let r = in_flat_map_from (leadings_by g) e (productions_of g m) i in
      let s = by_from r.0 e r.2 in
      (r.0, s.0, headed_gives g m r.0 r.1, s.1, s.2)

  pub leading_in : (m p k : ℕ) → IsProductionOf g p m → k < length (body_of g p) → IsIn (leading_at g p k) (leadings_of g m)
  leading_in m p k h l =
      in_flat_map (leadings_by g) p (leading_at g p k) (productions_of g m) (headed_from g m p h)
      (in_map (leading_at g p) k (numbers_from 0 (length (body_of g p))) (numbers_in k 0 (length (body_of g p)) (omega arith) (omega arith)))

  places_ordered : (p k n : ℕ) → IsOrdered target_no Precedes (map (leading_at g p) (numbers_from k n))
  places_ordered p k zero = tt
  places_ordered p k (suc n) = (
    λ y i.
        let r = in_map_from (leading_at g p) y (numbers_from (suc k) n) i in
        let l : suc k ≤ r.0 = from_first r.0 (suc k) n r.1 in
        subst (λ z. Precedes (leading_at g p k) z) (sym r.2) (inr (refl, omega arith)),
    places_ordered p (suc k) n,
  )

  bodies_ordered : (ps : List ℕ) → IsRising ps → IsOrdered target_no Precedes (flat_map (leadings_by g) ps)
  bodies_ordered [] r = tt
  bodies_ordered (p ∷ ps) r = ordered-append target_no Precedes (leadings_by g p) (flat_map (leadings_by g) ps)
      (places_ordered p 0 (length (body_of g p))) (bodies_ordered ps (rising_tail p ps r))
      (λ x y i j.
      let a = by_from p x i in
      let b = in_flat_map_from (leadings_by g) y ps j in
      let c = by_from b.0 y b.2 in
      let l : p < b.0 = rising_head p ps r b.0 b.1 in
      subst (λ z. Precedes z y) (sym a.2) (subst (λ z. Precedes (leading_at g p a.0) z) (sym c.2) (inl l)))

  pub leadings_ordered : (m : ℕ) → IsOrdered target_no Precedes (leadings_of g m)
  leadings_ordered m = bodies_ordered (productions_of g m) (numbers_rise (λ p. head_of g p == m) 0 (length g.productions))
