-- Sets of numbers below a bound that only grow, of which it is told what is in them, come to one that stays.
use Rattle.std.proofs.Common.{◌≡◌, ◌⊎◌, ℕ, zero, suc, ◌+◌, ◌<◌, ◌≤◌, subst, inl, inr, ⊎_elim, arith}
use Rattle.std.proofs.lemmas.Bool.{cases_lt}
use Rattle.wf_model.proofs.Deciding.{Either, either_if, all_or_first}

-- one where it is so, and none where it is not
abbrev as_number : {P : Type 0} → Either P → ℕ
as_number (inl p) = 1
as_number (inr n) = 0

as_number_few : {P : Type 0} (e : Either P) → as_number e ≤ 1
as_number_few (inl p) = omega arith
as_number_few (inr n) = omega arith

as_number_more : {P Q : Type 0} (e : Either P) (f : Either Q) → (P → Q) → as_number e ≤ as_number f
as_number_more (inl p) (inl q) to = omega arith
as_number_more (inl p) (inr n) to = absurd (n (to p))
as_number_more (inr n) f to = omega arith

as_number_gained : {P Q : Type 0} (e : Either P) (f : Either Q) → (P → ⊥) → Q → as_number e < as_number f
as_number_gained (inl p) f none q = absurd (none p)
as_number_gained (inr n) (inl q) none so = omega arith
as_number_gained (inr n) (inr m) none q = absurd (m q)

as_number_all : {P : Type 0} (e : Either P) → 1 ≤ as_number e → P
as_number_all (inl p) l = p
as_number_all (inr n) l = absurd (omega arith)

module _ (In : ℕ → ℕ → Type 0) (either : (n m : ℕ) → Either (In n m)) (more : (n m : ℕ) → In n m → In (suc n) m) where
  -- how many numbers below k are in the n-th set
  count : ℕ → ℕ → ℕ
  count n zero = 0
  count n (suc k) = count n k + as_number (either n k)

  count_few : (n k : ℕ) → count n k ≤ k
  unfolding count
  count_few n zero = omega arith
  count_few n (suc k) = let a = count_few n k in let b = as_number_few (either n k) in omega arith

  count_more : (n k : ℕ) → count n k ≤ count (suc n) k
  unfolding count
  count_more n zero = omega arith
  count_more n (suc k) = let a = count_more n k in let b = as_number_more (either n k) (either (suc n) k) (more n k) in omega arith

  count_gained : (n k m : ℕ) → m < k → (In n m → ⊥) → In (suc n) m → count n k < count (suc n) k
  unfolding count
  count_gained n zero m l none so = absurd (omega arith)
  count_gained n (suc k) m l none so = ⊎_elim
      (λ below. let a = count_gained n k m below none so in let b = as_number_more (either n k) (either (suc n) k) (more n k) in omega arith)
      (λ past. let same : m ≡ k = omega arith in let a = count_more n k in let b = as_number_gained (either n k) (either (suc n) k) (subst (λ j. In n j → ⊥) same none) (subst (In (suc n)) same so) in omega arith)
      (cases_lt m k)

  count_all : (n k : ℕ) → k ≤ count n k → (m : ℕ) → m < k → In n m
  unfolding count
  count_all n zero l m h = absurd (omega arith)
  count_all n (suc k) l m h =
      let few = count_few n k in
      let one = as_number_few (either n k) in
      ⊎_elim (λ below. count_all n k (omega arith) m below) (λ past. let same : k ≡ m = omega arith in subst (In n) same (as_number_all (either n k) (omega arith))) (cases_lt m k)

  module _ (bound : ℕ) where
    -- what is in the next set is in this one
    abbrev pub IsSettled : ℕ → Type 0
    IsSettled n = (m : ℕ) → m < bound → In (suc n) m → In n m

    settle_within : (fuel n : ℕ) → bound ≤ count n bound + fuel → (k : ℕ) × IsSettled k
    settle_within zero n l = (n, λ m h so. count_all n bound (omega arith) m h)
    settle_within (suc fuel) n l = ⊎_elim
        (λ all. (n, all))
        (λ f. let gained = gain f.0 f.1 f.2 in settle_within fuel (suc n) (omega arith))
        (all_or_first (λ m. In (suc n) m → In n m) bound (λ m h. either_if (either (suc n) m) (either n m)))
      where
        gain : (m : ℕ) → m < bound → ((In (suc n) m → In n m) → ⊥) → count n bound < count (suc n) bound
        gain m h not = count_gained n bound m h (λ so. not (λ later. so)) (⊎_elim (λ so. so) (λ none. absurd (not (λ so. absurd (none so)))) (either (suc n) m))

    pub settles : (k : ℕ) × IsSettled k
    settles = settle_within bound 0 (omega arith)
