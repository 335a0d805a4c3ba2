-- The steps of a module stand in order in their list.
use Rattle.std.proofs.Common.{◌≡◌, ℕ, zero, suc, ◌+◌, ◌<◌, ◌≤◌, ◌⊎◌, Bool, true, false, cond, ◌==◌, List, [], ◌∷◌, ◌++◌, map, flat_map, length, refl, sym, ap, ◌∙◌, subst, inl, inr, ⊎_elim, arith, true≢false}
use Rattle.std.proofs.lemmas.Bool.{eqb-true, eq-eqb}
use Rattle.wf_model.specs.Lists.{IsIn, IsAt, numbers_from}
use Rattle.wf_model.specs.Grammar.{Grammar, head_of, body_of}
use Rattle.wf_model.specs.Linear.{IsStepOf}
use Rattle.wf_model.specs.Reach.{Step}
use Rattle.wf_model.proofs.Lists.{in_append_cases, in_map, in_map_from, in_flat_map, in_flat_map_from, at_in}
use Rattle.wf_model.proofs.Level.{in_numbers, numbers_in}
use Rattle.wf_model.proofs.NumberLists.{from_first}
use Rattle.wf_laws.proofs.Reach.{step_to}
use Rattle.compare_model.specs.Routes.{IsEarlier, ComesFirst}

-- the steps by a production, by position
abbrev steps_by : Grammar → ℕ → List Step
steps_by g p = map (step_to p) (numbers_from 0 (length (body_of g p)))

-- the steps that leave a module, by production and then by position
abbrev pub steps_of : Grammar → ℕ → List Step
steps_of g m = flat_map (λ p. cond (head_of g p == m) (steps_by g p) []) (numbers_from 0 (length g.productions))

-- the one step, or an earlier one, comes before whatever comes behind the other
pub earlier_through : (s t v : Step) → (s ≡ t) ⊎ IsEarlier s t → IsEarlier t v → IsEarlier s v
earlier_through s t v (inl e) q = subst (λ z. IsEarlier z v) (sym e) q
earlier_through s t v (inr (inl a)) (inl b) = inl (omega arith)
earlier_through s t v (inr (inl a)) (inr b) = inl (omega (arith, b.0))
earlier_through s t v (inr (inr a)) (inl b) = inl (omega (arith, a.0))
earlier_through s t v (inr (inr a)) (inr b) = inr (a.0 ∙ b.0, omega (arith, a.1, b.1))

-- no step comes before itself
pub not_earlier : (s t : Step) → s ≡ t → IsEarlier s t → ⊥
not_earlier s t e (inl a) = let p : s.production ≡ t.production = ap (λ (z : Step). z.production) e in absurd (omega arith)
not_earlier s t e (inr a) = let p : s.position ≡ t.position = ap (λ (z : Step). z.position) e in absurd (omega (arith, a.1))

-- of two lists each of which comes first, they are one
pub both_first : (a b : List Step) → length a ≡ length b → ComesFirst a b → ComesFirst b a → a ≡ b
both_first [] [] e p q = refl
both_first [] (t ∷ b) e p q = absurd (omega arith)
both_first (s ∷ a) [] e p q = absurd p
both_first (s ∷ a) (t ∷ b) e (inl p) (inl q) = absurd (not_earlier s s refl (earlier_through s t s (inr p) q))
both_first (s ∷ a) (t ∷ b) e (inl p) (inr q) = absurd (not_earlier s t (sym q.0) p)
both_first (s ∷ a) (t ∷ b) e (inr p) (inl q) = absurd (not_earlier t s (sym p.0) q)
both_first (s ∷ a) (t ∷ b) e (inr p) (inr q) = let rest = both_first a b (omega arith) p.1 q.1 in λ k. p.0 k ∷ rest k

-- each step of a list comes before those behind it
abbrev AreRising : List Step → Type 0
AreRising [] = Unit {0}
AreRising (s ∷ ss) = ((t : Step) → IsIn t ss → IsEarlier s t) × AreRising ss

rising-append : (ss ts : List Step) → AreRising ss → AreRising ts → ((s t : Step) → IsIn s ss → IsIn t ts → IsEarlier s t) → AreRising (ss ++ ts)
rising-append [] ts a b h = b
rising-append (s ∷ ss) ts a b h = ((λ t i. ⊎_elim (λ j. a.0 t j) (λ j. h s t (inl refl) j) (in_append_cases t ss ts i)), rising-append ss ts a.1 b (λ v t i j. h v t (inr i) j))

rising_at : (ss : List Step) → AreRising ss → (s t : Step) (j k : ℕ) → IsAt s j ss → IsAt t k ss → j < k → IsEarlier s t
rising_at [] a s t j k p q l = absurd p
rising_at (v ∷ ss) a s t zero zero p q l = absurd (omega arith)
rising_at (v ∷ ss) a s t zero (suc k) p q l = subst (λ z. IsEarlier z t) (sym p) (a.0 t (at_in t k ss q))
rising_at (v ∷ ss) a s t (suc j) zero p q l = absurd (omega arith)
rising_at (v ∷ ss) a s t (suc j) (suc k) p q l = rising_at ss a.1 s t j k p q (omega arith)

module _ (g : Grammar) where
  by_position : (p k n : ℕ) → AreRising (map (step_to p) (numbers_from k n))
  by_position p k zero = tt
  by_position p k (suc n) = (
    (λ t i. let r = in_map_from (step_to p) t (numbers_from (suc k) n) i in let l : suc k ≤ r.0 = from_first r.0 (suc k) n r.1 in
        subst (IsEarlier (step_to p k)) (sym r.2) (inr (refl, omega arith))),
    by_position p (suc k) n,
  )

  -- the steps by a production, if it is one of the module
  abbrev steps_if : ℕ → ℕ → List Step
  steps_if m p = cond (head_of g p == m) (steps_by g p) []

  in_steps_if : (m p : ℕ) (s : Step) → IsIn s (steps_if m p) → (head_of g p ≡ m) × IsIn s (steps_by g p)
  in_steps_if m p s h = go (head_of g p == m) refl h
    where
      go : (b : Bool) → (head_of g p == m) ≡ b → IsIn s (cond b (steps_by g p) []) → (head_of g p ≡ m) × IsIn s (steps_by g p)
      go true e i = (eqb-true (head_of g p) m e, i)
      go false e i = absurd i

  production_of : (m p : ℕ) (s : Step) → IsIn s (steps_if m p) → s.production ≡ p
  production_of m p s h = let r = in_map_from (step_to p) s (numbers_from 0 (length (body_of g p))) (in_steps_if m p s h).1 in ap (λ (z : Step). z.production) r.2

  rising_if : (m p : ℕ) → AreRising (steps_if m p)
  rising_if m p = go (head_of g p == m)
    where
      go : (b : Bool) → AreRising (cond b (steps_by g p) [])
      go true = by_position p 0 (length (body_of g p))
      go false = tt

  by_production : (m k n : ℕ) → AreRising (flat_map (steps_if m) (numbers_from k n))
  by_production m k zero = tt
  by_production m k (suc n) = rising-append (steps_if m k) (flat_map (steps_if m) (numbers_from (suc k) n)) (rising_if m k) (by_production m (suc k) n)
      (λ s t i j.
      let r = in_flat_map_from (steps_if m) t (numbers_from (suc k) n) j in
      let l : suc k ≤ r.0 = from_first r.0 (suc k) n r.1 in
      let p : s.production ≡ k = production_of m k s i in
      let q : t.production ≡ r.0 = production_of m r.0 t r.2 in
      inl (omega arith))

  -- what stands in the list of steps is a step
  pub steps_are : (m : ℕ) (s : Step) → IsIn s (steps_of g m) → IsStepOf g m s
  steps_are m s h =
      let r = in_flat_map_from (steps_if m) s (numbers_from 0 (length g.productions)) h in
      let f = in_steps_if m r.0 s r.2 in
      let q = in_map_from (step_to r.0) s (numbers_from 0 (length (body_of g r.0))) f.1 in
      let same : step_to r.0 q.0 ≡ s = sym q.2 in
      let lp : r.0 < 0 + length g.productions = in_numbers r.0 0 (length g.productions) r.1 in
      let lk : q.0 < 0 + length (body_of g r.0) = in_numbers q.0 0 (length (body_of g r.0)) q.1 in
      subst (IsStepOf g m) same (record { in_range = omega arith; head = f.0; position = omega arith })

  pub steps_have : (m : ℕ) (s : Step) → IsStepOf g m s → IsIn s (steps_of g m)
  steps_have m s h =
      in_flat_map (steps_if m) s.production s (numbers_from 0 (length g.productions)) (let l = h.in_range in numbers_in s.production 0 (length g.productions) (omega arith) (omega arith))
      (go (head_of g s.production == m) refl)
    where
      go : (b : Bool) → (head_of g s.production == m) ≡ b → IsIn s (cond b (steps_by g s.production) [])
      go true e = let l = h.position in in_map (step_to s.production) s.position (numbers_from 0 (length (body_of g s.production))) (numbers_in s.position 0 (length (body_of g s.production)) (omega arith) (omega arith))
      go false e = absurd (true≢false (sym (eq-eqb (head_of g s.production) m h.head) ∙ e))

  -- and the one that stands before another comes before it
  pub steps_rise : (m : ℕ) (s t : Step) (j k : ℕ) → IsAt s j (steps_of g m) → IsAt t k (steps_of g m) → j < k → IsEarlier s t
  steps_rise m = rising_at (steps_of g m) (by_production m 0 (length g.productions))
