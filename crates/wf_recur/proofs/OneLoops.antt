-- The two loops of a grammar are told in one way, and a strictly linear grammar has none.
use Rattle.std.proofs.Common.{◌≡◌, ◌≢◌, ◌⊎◌, ℕ, ◌<◌, sym, ap, subst, inl, inr, ⊎_elim, arith}
use Rattle.std.proofs.lemmas.Bool.{cases_eq, cases_lt}
use Rattle.wf_model.specs.Grammar.{Grammar}
use Rattle.wf_model.specs.Reach.{Step}
use Rattle.wf_model.specs.Linear.{IsLinear}
use Rattle.wf_model.proofs.Going.{same_step}
use Rattle.wf_recur.specs.declared.fault.RecurFault.{RecurFault}
use Rattle.wf_recur.specs.declared.fault.RecurFault.TheVariants.{TwoLoops, NoMemory}
use Rattle.wf_recur.specs.Cycles.{step_of}
use Rattle.wf_recur.specs.Loops.{IsBefore, IsTwoLoops, IsFaultOf}

not_both : (s t : Step) → IsBefore s t → IsBefore t s → ⊥
not_both s t (inl a) (inl b) = absurd (omega arith)
not_both s t (inl a) (inr b) = let e = b.0 in absurd (omega arith)
not_both s t (inr a) (inl b) = let e = a.0 in absurd (omega arith)
not_both s t (inr a) (inr b) = let c = a.1 in let d = b.1 in absurd (omega arith)

same_or_not : (s t : Step) → (s ≡ t) ⊎ (s ≢ t)
same_or_not s t =
    ⊎_elim (λ p. ⊎_elim (λ q. inl (same_step s t p q)) (λ n. inr (λ e. n (ap (λ (x : Step). x.position) e))) (cases_eq s.position t.position))
    (λ n. inr (λ e. n (ap (λ (x : Step). x.production) e))) (cases_eq s.production t.production)

differ : (s t : Step) → IsBefore s t → s ≢ t
differ s t h e = let k = subst (IsBefore s) (sym e) h in not_both s s k k

module _ (g : Grammar) where
  -- of two modules with two loops none is less
  not_less : (m n : ℕ) (s t u v : Step) → IsTwoLoops g m s t → IsTwoLoops g n u v → m < n → ⊥
  not_less m n s t u v p q h = differ s t p.in_order (q.least m h s t p.first_continues p.second_continues)

  one_module : (m n : ℕ) (s t u v : Step) → IsTwoLoops g m s t → IsTwoLoops g n u v → m ≡ n
  one_module m n s t u v p q =
      ⊎_elim (λ h. absurd (not_less m n s t u v p q h))
      (λ h. ⊎_elim (λ l. absurd (not_less n m u v s t q p l)) (λ l. omega arith) (cases_lt n m)) (cases_lt m n)

  one_first : (m : ℕ) (s t u v : Step) → IsTwoLoops g m s t → IsTwoLoops g m u v → s ≡ u
  one_first m s t u v p q =
      ⊎_elim (λ e. e)
      (λ n. absurd (not_both s u (p.first_least u q.first_continues (λ e. n (sym e))) (q.first_least s p.first_continues n))) (same_or_not s u)

  one_second : (m : ℕ) (s t v : Step) → IsTwoLoops g m s t → IsTwoLoops g m s v → t ≡ v
  one_second m s t v p q =
      ⊎_elim (λ e. e)
      (λ n. absurd (not_both t v
      (p.second_least v q.second_continues (λ e. differ s v q.in_order (sym e)) (λ e. n (sym e)))
      (q.second_least t p.second_continues (λ e. differ s t p.in_order (sym e)) n))) (same_or_not t v)

  -- a grammar has two loops in one way
  pub one_way : (m n : ℕ) (s t u v : Step) → IsTwoLoops g m s t → IsTwoLoops g n u v → (m ≡ n) × (s ≡ u) × (t ≡ v)
  one_way m n s t u v p q =
      let same = one_module m n s t u v p q in
      let there : IsTwoLoops g m u v = subst (λ k. IsTwoLoops g k u v) (sym same) q in
      let first = one_first m s t u v p there in
      (same, first, one_second m s t v p (subst (λ x. IsTwoLoops g m x v) (sym first) there))

  -- a strictly linear grammar has none
  pub none_of_linear : (f : RecurFault) → IsLinear g → IsFaultOf g f → ⊥
  none_of_linear (TwoLoops m s t) linear h = differ (step_of s) (step_of t) h.in_order (linear m.0 (step_of s) (step_of t) h.first_continues h.second_continues)
  none_of_linear NoMemory linear h = absurd h
