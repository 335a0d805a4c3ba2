-- Of the pairs for which something holds one is the first.
use Rattle.std.proofs.Common.{◌≡◌, ℕ, ◌<◌, ◌≤◌, ◌⊎◌, sym, subst, inl, inr, ⊎_elim, arith}
use Rattle.std.proofs.lemmas.Bool.{cases_lt}
use Rattle.wf_model.proofs.Deciding.{Either, first_below, some_below}
use Rattle.compare_model.specs.Pairs.{ModulePair, IsNoLater, IsFirst}

-- two pairs of which none is later are one
pub one_pair : (x y : ModulePair) → IsNoLater x y → IsNoLater y x → x ≡ y
one_pair x y (inl p) (inl q) = absurd (omega arith)
one_pair x y (inl p) (inr q) = absurd (omega (arith, q.0))
one_pair x y (inr p) (inl q) = absurd (omega (arith, p.0))
one_pair x y (inr p) (inr q) = go p.1 q.1
  where
    go : (x.input < y.input) ⊎ ((x.input ≡ y.input) × (x.output ≤ y.output)) → (y.input < x.input) ⊎ ((y.input ≡ x.input) × (y.output ≤ x.output)) → x ≡ y
    go (inl a) (inl b) = absurd (omega arith)
    go (inl a) (inr b) = absurd (omega (arith, b.0))
    go (inr a) (inl b) = absurd (omega (arith, a.0))
    go (inr a) (inr b) = let o : x.output ≡ y.output = omega (arith, a.1, b.1) in λ k. record { module_no = p.0 k; input = a.0 k; output = o k }

pub one_first : (Holds : ModulePair → Type 0) (x y : ModulePair) → IsFirst Holds x → IsFirst Holds y → x ≡ y
one_first Holds x y p q = one_pair x y (p.1 y q.0) (q.1 x p.0)

-- a pair by its numbers
abbrev pub pair : ℕ → ℕ → ℕ → ModulePair
pair m i o = record { module_no = m; input = i; output = o }

module _ (Holds : ModulePair → Type 0) (either : (x : ModulePair) → Either (Holds x)) (modules : ℕ) (ins outs : ℕ → ℕ)
    (within : (x : ModulePair) → Holds x → (x.module_no < modules) × (x.input < ins x.module_no) × (x.output < outs x.module_no)) where
  -- it holds of some pair with this module and this input
  abbrev OfInput : ℕ → ℕ → Type 0
  OfInput m i = (o : ℕ) × (o < outs m) × Holds (pair m i o)

  -- of some pair with this module
  abbrev OfModule : ℕ → Type 0
  OfModule m = (i : ℕ) × (i < ins m) × OfInput m i

  input_either : (m i : ℕ) → Either (OfInput m i)
  input_either m i = some_below (λ o. Holds (pair m i o)) (outs m) (λ o l. either (pair m i o))

  module_either : (m : ℕ) → Either (OfModule m)
  module_either m = some_below (OfInput m) (ins m) (λ i l. input_either m i)

  module _ (m i o : ℕ) (no_module : (k : ℕ) → k < m → OfModule k → ⊥) (no_input : (k : ℕ) → k < i → OfInput m k → ⊥) (no_output : (k : ℕ) → k < o → Holds (pair m i k) → ⊥) (y : ModulePair) (holds : Holds y) where
    of_input : OfInput y.module_no y.input
    of_input = let w = within y holds in (y.output, w.2, holds)

    of_module : OfModule y.module_no
    of_module = let w = within y holds in (y.input, w.1, of_input)

    by_output : m ≡ y.module_no → i ≡ y.input → o ≤ y.output
    by_output em ei = ⊎_elim (λ l. absurd (no_output y.output l (subst (λ z. Holds (pair z i y.output)) (sym em) (subst (λ z. Holds (pair y.module_no z y.output)) (sym ei) holds)))) (λ n. omega arith) (cases_lt y.output o)

    by_input : m ≡ y.module_no → (i < y.input) ⊎ ((i ≡ y.input) × (o ≤ y.output))
    by_input em = ⊎_elim
        (λ l. inl l)
        (λ n. ⊎_elim
        (λ l. absurd (no_input y.input l (subst (λ z. OfInput z y.input) (sym em) of_input)))
        (λ k. let e : i ≡ y.input = omega arith in inr (e, by_output em e))
        (cases_lt y.input i))
        (cases_lt i y.input)

    no_later : IsNoLater (pair m i o) y
    no_later = ⊎_elim
        (λ l. inl l)
        (λ n. ⊎_elim
        (λ l. absurd (no_module y.module_no l of_module))
        (λ k. let e : m ≡ y.module_no = omega arith in inr (e, by_input e))
        (cases_lt y.module_no m))
        (cases_lt m y.module_no)

  pub first_pair : ((x : ModulePair) × IsFirst Holds x) ⊎ ((x : ModulePair) → Holds x → ⊥)
  first_pair = ⊎_elim
      (λ r. inl (first_of r.0 r.2.so r.2.before))
      (λ none. inr (λ x h. let w = within x h in none x.module_no w.0 (x.input, w.1, (x.output, w.2, h))))
      (first_below OfModule modules (λ m l. module_either m))
    where
      first_of : (m : ℕ) → OfModule m → ((k : ℕ) → k < m → OfModule k → ⊥) → (x : ModulePair) × IsFirst Holds x
      first_of m some no_module = ⊎_elim
          (λ r. ⊎_elim
          (λ s. (pair m r.0 s.0, (s.2.so, λ y h. no_later m r.0 s.0 no_module r.2.before s.2.before y h)))
          (λ none. absurd (none r.2.so.0 r.2.so.1 r.2.so.2))
          (first_below (λ o. Holds (pair m r.0 o)) (outs m) (λ o l. either (pair m r.0 o))))
          (λ none. absurd (none some.0 some.1 some.2))
          (first_below (OfInput m) (ins m) (λ i l. input_either m i))
