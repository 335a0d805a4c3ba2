-- Lists of what is chosen for each number below a bound.
use Rattle.std.proofs.Common.{◌≡◌, ℕ, zero, suc, ◌+◌, ◌<◌, List, [], ◌∷◌, length, get_or, refl, ap, subst, arith}

-- for each number below n, something of which this is so is listed in its place
pub record AreListed {X : Type 0} (P : ℕ → X → Type 0) (d : X) (n : ℕ) : Type 0 where
  pub list : List X
  pub count : length list ≡ n
  pub each : (k : ℕ) → k < n → P k (get_or list k d)

listed_from : {X : Type 0} (P : ℕ → X → Type 0) (d : X) (n from : ℕ) → ((k : ℕ) → k < n → (x : X) × P (from + k) x) → AreListed (λ k. P (from + k)) d n
listed_from P d zero from choose = record { list = []; count = refl; each = λ k h. absurd (omega arith) }
listed_from {X} P d (suc n) from choose =
    let rest = listed_from P d n (suc from) (λ k h. let e : from + suc k ≡ suc from + k = omega arith in subst (λ j. (x : X) × P j x) e (choose (suc k) (omega arith))) in
    let first = choose 0 (omega arith) in
    record { list = first.0 ∷ rest.list; count = ap suc rest.count; each = λ k h. at first.0 first.1 rest k h }
  where
    at : (x : X) → P (from + 0) x → (rest : AreListed (λ k. P (suc from + k)) d n) → (k : ℕ) → k < suc n → P (from + k) (get_or (x ∷ rest.list) k d)
    at x p rest zero h = p
    at x p rest (suc k) h = let e : suc from + k ≡ from + suc k = omega arith in subst (λ j. P j (get_or rest.list k d)) e (rest.each k (omega arith))

pub listed : {X : Type 0} (P : ℕ → X → Type 0) (d : X) (n : ℕ) → ((k : ℕ) → k < n → (x : X) × P k x) → AreListed P d n
listed {X} P d n choose =
    let r = listed_from P d n 0 (λ k h. let e : k ≡ 0 + k = omega arith in subst (λ j. (x : X) × P j x) e (choose k h)) in
    record { list = r.list; count = r.count; each = λ k h. let e : 0 + k ≡ k = omega arith in subst (λ j. P j (get_or r.list k d)) e (r.each k h) }
