-- How often a place stands in a list.
use Rattle.std.proofs.Common.{◌≡◌, ℕ, ◌+◌, ◌<◌, ◌≤◌, ◌≢◌, Bool, true, false, cond, List, [], ◌∷◌, IsPermutation, refl, ap, sym, ◌∙◌, arith}
use Rattle.std.specs.Prelude.{◌==◌}
use Rattle.std.specs.List.{AllByRecursion}
use Rattle.std.proofs.lemmas.Bool.Decides.{nat_tests}
use Rattle.std.proofs.lemmas.List.Sums.{sum_by-cons}
use Rattle.std.proofs.lemmas.List.Sorted.{sum_by_pushed, sum_by_popped}
use Rattle.report_model.proofs.Events.{number_same}
use Rattle.wf_inbox.specs.Keeping.{times}
use Rattle.wf_inbox.specs.Places.{IsFirst}

abbrev pub one_if : Bool → ℕ
one_if b = cond b 1 0

-- one more place
pub times_pushed : (k p : ℕ) (xs ys : List ℕ) → IsPermutation (p ∷ xs) ys → times k ys ≡ times k xs + one_if (k == p)
times_pushed k p xs ys h = let a = sum_by_pushed (λ q. cond (k == q) 1 0) p xs ys h in omega arith

-- one place less
pub times_popped : (k p : ℕ) (xs ys : List ℕ) → IsPermutation xs (p ∷ ys) → times k xs ≡ times k ys + one_if (k == p)
times_popped k p xs ys h = let a = sum_by_popped (λ q. cond (k == q) 1 0) p xs ys h in omega arith

-- a number below all of a list does not stand there
pub below_all : (k p : ℕ) (xs : List ℕ) → k < p → AllByRecursion (λ q. p ≤ q) xs → times k xs ≡ 0
below_all k p [] l h = refl
below_all k p (x ∷ xs) l h =
    let a = below_all k p xs l h.1 in
    let b = sum_by-cons (λ q. cond (k == q) 1 0) x xs in
    let c : k == x ≡ false = let m = h.0 in grind (arith, nat_tests) in
    let d : one_if (k == x) ≡ 0 = ap one_if c in
    let e : times k (x ∷ xs) ≡ one_if (k == x) + times k xs = b in
    e ∙ omega arith

pub other_number : (k p : ℕ) → k ≢ p → k == p ≡ false
other_number k p n = grind (arith, nat_tests)

-- the first place stands there
pub first_times : (p : ℕ) (xs : List ℕ) → IsFirst xs p → 1 ≤ times p xs
first_times p [] f = let l = f.0 in absurd (omega arith)
first_times p (x ∷ xs) f =
    let a = sum_by-cons (λ q. cond (p == q) 1 0) x xs in
    let b : p == x ≡ true = ap (λ q. p == q) (sym f.1) ∙ number_same p in
    let c : one_if (p == x) ≡ 1 = ap one_if b in
    let d : times p (x ∷ xs) ≡ one_if (p == x) + times p xs = a in
    omega arith
