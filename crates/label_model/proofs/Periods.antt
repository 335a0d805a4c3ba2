-- Continuing steps lead along a cycle, and come back after a whole round.
use Rattle.std.proofs.Common.{◌≡◌, ℕ, zero, suc, ◌+◌, ◌*◌, ◌/◌, ◌%◌, Some, sym, ap, ◌∙◌, arith}
use Rattle.std.proofs.lemmas.Nat.{div-add-mod'}
use Rattle.wf_model.specs.Grammar.{Grammar}
use Rattle.wf_model.specs.WellFormed.{IsWellFormed}
use Rattle.wf_model.specs.Linear.{IsLinear, GoesOnBy, IsCycleLength}
use Rattle.label_model.specs.Continuing.{continuing, next_by, after}
use Rattle.label_model.specs.ContinuingLaws.{PeriodLaw}
use Rattle.label_model.proofs.ContinuingSteps.{continuing_law}

-- first so many continuing steps, and then so many more
pub after-add : (g : Grammar) (c d m : ℕ) → after g (c + d) m ≡ after g d (after g c m)
after-add g zero d m = let e : 0 + d ≡ d = omega arith in ap (λ z. after g z m) e
after-add g (suc c) d m = let e : suc c + d ≡ suc (c + d) = omega arith in ap (λ z. after g z m) e ∙ after-add g c d (next_by g m (continuing g m))

module _ (g : Grammar) (wf : IsWellFormed g) (lin : IsLinear g) where
  leads : (n a b : ℕ) → GoesOnBy g n a b → after g n a ≡ b
  leads zero a b h = h
  leads (suc n) a b h =
      let s = h.1 in
      let e : continuing g a ≡ Some s.0 = (continuing_law g wf lin a s.0).1 s.1 in
      ap (λ o. after g n (next_by g a o)) e ∙ (ap (after g n) s.2 ∙ leads n h.0 b h.2)

  -- whole rounds lead back
  rounds : (first l : ℕ) → after g l first ≡ first → (q r : ℕ) → after g (q * l + r) first ≡ after g r first
  rounds first l back zero r = let e : 0 * l + r ≡ r = omega arith in ap (λ z. after g z first) e
  rounds first l back (suc q) r =
      let e : suc q * l + r ≡ l + (q * l + r) = omega arith in
      ap (λ z. after g z first) e ∙ (after-add g l (q * l + r) first ∙ (ap (after g (q * l + r)) back ∙ rounds first l back q r))

  -- from a place of the cycle on
  from_first : (first place m c : ℕ) → GoesOnBy g place first m → after g c m ≡ after g (place + c) first
  from_first first place m c h = ap (after g c) (sym (leads place first m h)) ∙ sym (after-add g place c first)

  period : (first l place m c : ℕ) → IsCycleLength g first l → GoesOnBy g place first m → after g (c + l) m ≡ after g c m
  period first l place m c w h =
      let e : place + (c + l) ≡ 1 * l + (place + c) = omega arith in
      from_first first place m (c + l) h ∙ (ap (λ z. after g z first) e ∙ (rounds first l (leads l first first w.1) 1 (place + c) ∙ sym (from_first first place m c h)))

  rest : (first l place m c : ℕ) → IsCycleLength g first l → GoesOnBy g place first m → after g c m ≡ after g ((place + c) % l) first
  rest first l place m c w h =
      let n = place + c in
      from_first first place m c h ∙ (ap (λ z. after g z first) (sym (div-add-mod' n l)) ∙ rounds first l (leads l first first w.1) (n / l) (n % l))

pub period_law : PeriodLaw
period_law g wf lin = record {
  leads = leads g wf lin;
  period = period g wf lin;
  rest = rest g wf lin;
}
