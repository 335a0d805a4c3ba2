-- A well-formed grammar is strictly linear, or has two loops of one module.
use Rattle.std.proofs.Common.{◌≡◌, ◌≢◌, ◌⊎◌, ℕ, ◌<◌, length, sym, ◌∙◌, subst, inl, inr, ⊎_elim, arith}
use Rattle.std.proofs.lemmas.Bool.{cases_lt}
use Rattle.wf_model.specs.declared.body.Step.{Step as StepHeld}
use Rattle.wf_model.specs.Grammar.{Grammar, head_of, body_of}
use Rattle.wf_model.specs.WellFormed.{IsWellFormed}
use Rattle.wf_model.specs.Reach.{Step, target_of}
use Rattle.wf_model.specs.Linear.{Continues, IsLinear}
use Rattle.wf_model.proofs.Composites.{composite_below}
use Rattle.wf_model.proofs.Deciding.{Either, IsFirst, either_same, either_not, either_both, number_either, below_either, test_either, some_below, first_below}
use Rattle.wf_model.proofs.Going.{same_step}
use Rattle.label_model.specs.Continuing.{derives}
use Rattle.label_model.proofs.Deriving.{derives_law}
use Rattle.label_model.proofs.LabelOrNot.{step_either}
use Rattle.wf_recur.specs.declared.fault.RecurFault.{RecurFault}
use Rattle.wf_recur.specs.declared.fault.RecurFault.TheVariants.{TwoLoops}
use Rattle.wf_recur.specs.Loops.{IsBefore, HasOneLoop, IsFaultOf}

-- the step s stands before each other of which this is so
record IsFirstStep (P : Step → Type 0) (s : Step) : Type 0 where
  so : P s
  before : (t : Step) → P t → t ≢ s → IsBefore s t

module _ (g : Grammar) (P : Step → Type 0) (either : (s : Step) → Either (P s)) (within : (s : Step) → P s → (s.production < length g.productions) × (s.position < length (body_of g s.production))) where
  abbrev At : ℕ → ℕ → Type 0
  At p k = P (record { production = p; position = k })

  abbrev OfProduction : ℕ → Type 0
  OfProduction p = (k : ℕ) × (k < length (body_of g p)) × At p k

  by_order : (p k : ℕ) → IsFirst OfProduction p → IsFirst (At p) k → IsFirstStep P (record { production = p; position = k })
  by_order p k f h = record { so = h.so; before = before }
    where
      at_same : (t : Step) → P t → t ≢ record { production = p; position = k } → t.production ≡ p → IsBefore (record { production = p; position = k }) t
      at_same t so other same = ⊎_elim
          (λ l. inr (sym same, l))
          (λ l. ⊎_elim
          (λ m. absurd (h.before t.position m (subst (λ q. At q t.position) same so)))
          (λ m. absurd (other (same_step t (record { production = p; position = k }) same (omega arith))))
          (cases_lt t.position k))
          (cases_lt k t.position)

      before : (t : Step) → P t → t ≢ record { production = p; position = k } → IsBefore (record { production = p; position = k }) t
      before t so other = ⊎_elim
          (λ l. inl l)
          (λ l. ⊎_elim
          (λ m. absurd (f.before t.production m (t.position, (within t so).1, so)))
          (λ m. at_same t so other (omega arith))
          (cases_lt t.production p))
          (cases_lt p t.production)

  -- it is so of a first step, or of none
  first_step : ((s : Step) × IsFirstStep P s) ⊎ ((s : Step) → P s → ⊥)
  first_step = ⊎_elim
      (λ r. inl (of_production r.0 r.2 (first_below (At r.0) (length (body_of g r.0)) (λ k l. either (record { production = r.0; position = k })))))
      (λ none. inr (λ s so. none s.production (within s so).0 (s.position, (within s so).1, so)))
      (first_below OfProduction (length g.productions) (λ p l. some_below (At p) (length (body_of g p)) (λ k m. either (record { production = p; position = k }))))
    where
      of_production : (p : ℕ) → IsFirst OfProduction p → ((k : ℕ) × (k < length (body_of g p)) × IsFirst (At p) k) ⊎ ((k : ℕ) → k < length (body_of g p) → At p k → ⊥) → (s : Step) × IsFirstStep P s
      of_production p f (inl r) = (record { production = p; position = r.0 }, by_order p r.0 f r.2)
      of_production p f (inr none) = absurd (none f.so.0 f.so.1 f.so.2)

-- no step stands before itself
not_itself : (s : Step) → IsBefore s s → ⊥
not_itself s (inl l) = absurd (omega arith)
not_itself s (inr h) = let l = h.1 in absurd (omega arith)

module _ (g : Grammar) (formed : IsWellFormed g) where
  continues_either : (m : ℕ) (s : Step) → Either (Continues g m s)
  continues_either m s = either_both
      (either_same (λ h. record { in_range = h.0; head = h.1.0; position = h.1.1 }) (λ h. (h.in_range, (h.head, h.position)))
      (either_both (below_either s.production (length g.productions)) (either_both (number_either (head_of g s.production) m) (below_either s.position (length (body_of g s.production))))))
      (let law = derives_law g formed (target_of g s) m in either_same law.0 law.1 (test_either (derives g (target_of g s) m)))

  -- the first two continuing steps of a module
  abbrev AreFirstTwo : ℕ → Step → Step → Type 0
  AreFirstTwo m s t = IsFirstStep (Continues g m) s × IsFirstStep (λ x. Continues g m x × (x ≢ s)) t

  -- a module has one loop, or two, of which these are the first
  one_or_two : (m : ℕ) → HasOneLoop g m ⊎ ((s : Step) × (t : Step) × AreFirstTwo m s t)
  one_or_two m = by_first (first_step g (Continues g m) (continues_either m) (λ s h. (h.0.in_range, h.0.position)))
    where
      same : (s x : Step) → ((t : Step) → Continues g m t × (t ≢ s) → ⊥) → Continues g m x → x ≡ s
      same s x none h = ⊎_elim (λ e. e) (λ n. absurd (none x (h, n))) (step_either x s)

      by_second : (s : Step) → IsFirstStep (Continues g m) s → ((t : Step) × IsFirstStep (λ x. Continues g m x × (x ≢ s)) t) ⊎ ((t : Step) → Continues g m t × (t ≢ s) → ⊥) → HasOneLoop g m ⊎ ((s : Step) × (t : Step) × AreFirstTwo m s t)
      by_second s f (inl r) = inr (s, r.0, (f, r.1))
      by_second s f (inr none) = inl (λ x y hx hy. same s x none hx ∙ sym (same s y none hy))

      by_first : ((s : Step) × IsFirstStep (Continues g m) s) ⊎ ((s : Step) → Continues g m s → ⊥) → HasOneLoop g m ⊎ ((s : Step) × (t : Step) × AreFirstTwo m s t)
      by_first (inr none) = inl (λ x y hx hy. absurd (none x hx))
      by_first (inl r) = by_second r.0 r.1 (first_step g (λ x. Continues g m x × (x ≢ r.0)) (λ x. either_both (continues_either m x) (either_not (step_either x r.0))) (λ x h. (h.0.0.in_range, h.0.0.position)))

  not_one : (m : ℕ) (s t : Step) → AreFirstTwo m s t → HasOneLoop g m → ⊥
  not_one m s t two one = two.1.so.1 (one t s two.1.so.0 two.0.so)

  one_either : (m : ℕ) → Either (HasOneLoop g m)
  one_either m = ⊎_elim (λ one. inl one) (λ r. inr (not_one m r.0 r.1 r.2)) (one_or_two m)

  -- a step as it is told
  abbrev held : Step → StepHeld
  held s = record { production = record { 0 = s.production }; position = record { 0 = s.position } }

  two_told : (m : ℕ) → IsFirst (λ k. HasOneLoop g k → ⊥) m → HasOneLoop g m ⊎ ((s : Step) × (t : Step) × AreFirstTwo m s t) → (f : RecurFault) × IsFaultOf g f
  two_told m f (inl one) = absurd (f.so one)
  two_told m f (inr (s, t, two)) = (
    TwoLoops (record { 0 = m }) (held s) (held t),
    record {
      first_continues = two.0.so;
      second_continues = two.1.so.0;
      in_order = two.0.before t two.1.so.0 two.1.so.1;
      first_least = two.0.before;
      second_least = λ x h n other. two.1.before x (h, n) other;
      least = λ k l. ⊎_elim (λ one. one) (λ none. absurd (f.before k l none)) (one_either k);
    },
  )

  -- a well-formed grammar is strictly linear, or has two loops
  pub linear_or_loops : IsLinear g ⊎ ((f : RecurFault) × IsFaultOf g f)
  linear_or_loops = ⊎_elim
      (λ r. inr (two_told r.0 r.2 (one_or_two r.0)))
      (λ none. inl (λ m s t hs ht. ⊎_elim (λ one. one s t hs ht) (λ not. absurd (none m (composite_below g formed m (s.production, (hs.0.in_range, hs.0.head))) not)) (one_either m)))
      (first_below (λ m. HasOneLoop g m → ⊥) (length g.modules) (λ m l. either_not (one_either m)))
