-- The lowest column that one row has and another has not, and the first pair of two lists of rows.
use Rattle.std.proofs.Common.{◌≡◌, ◌≢◌, ℕ, ◌+◌, ◌==◌, ◌%◌, ◌^◌, ◌<◌, ◌≤◌, ◌⊎◌, min, true, false, List, length, get_or, bit_and, bit_xor, sym, ap, ◌∙◌, subst, inl, inr, ⊎_elim, arith}
use Rattle.std.specs.Int.{bit_at, w64, trailing_zeros}
use Rattle.std.proofs.lemmas.Bool.Decides.{nat_tests}
use Rattle.std.proofs.lemmas.Nat.{and_le_l}
use Rattle.std.proofs.lemmas.Nat.Bits.{bit_at_and, bit_at_xor, bit_at-lt, bit_at-zero, bit_at-trailing_zeros}
use Rattle.bool_mat.specs.Matrix.{has}
use Rattle.bool_mat.proofs.Rows.{has_gives, has_from}
use Rattle.wf_compare.specs.Pairs.{IsMore, IsFirstMore}

-- the columns that a row has and another has not
abbrev pub more_of : ℕ → ℕ → ℕ
more_of a b = bit_and a (bit_xor a b)

bit_more : (a b j : ℕ) → bit_at (more_of a b) j ≡ min (bit_at a j) ((bit_at a j + bit_at b j) % 2)
bit_more a b j = bit_at_and a (bit_xor a b) j ∙ ap (min (bit_at a j)) (bit_at_xor a b j)

one_alone : (x y : ℕ) → x < 2 → y < 2 → min x ((x + y) % 2) ≡ 1 → (x ≡ 1) × (y ≡ 0)
one_alone x y h k e = (grind arith, grind arith)

none_alone : (x y : ℕ) → x < 2 → y < 2 → min x ((x + y) % 2) ≡ 0 → x ≡ 1 → y ≡ 1
none_alone x y h k e d = grind arith

not_from : (a j : ℕ) → has a j ≡ false → bit_at a j ≡ 1 → ⊥
unfolding has
not_from a j e d = grind (arith, nat_tests)

more_gives : (a b j : ℕ) → bit_at (more_of a b) j ≡ 1 → (has a j ≡ true) × (has b j ≡ false)
unfolding has
more_gives a b j e =
    let r = one_alone (bit_at a j) (bit_at b j) (bit_at-lt a j) (bit_at-lt b j) (sym (bit_more a b j) ∙ e) in
    (has_from a j r.0, ap (λ z. z == 1) r.1)

no_more : (a b j : ℕ) → bit_at (more_of a b) j ≡ 0 → has a j ≡ true → has b j ≡ false → ⊥
no_more a b j e h k = not_from b j k (none_alone (bit_at a j) (bit_at b j) (bit_at-lt a j) (bit_at-lt b j) (sym (bit_more a b j) ∙ e) (has_gives a j h))

-- a row has no more than another, where no such column is there
pub row_passed : (one other : List ℕ) (i : ℕ) → more_of (get_or one i 0) (get_or other i 0) ≡ 0 → ((k o : ℕ) → k < i → IsMore one other k o → ⊥) → (k o : ℕ) → k < i + 1 → IsMore one other k o → ⊥
row_passed one other i e before k o l m = ⊎_elim
    (λ (h : k < i). before k o h m)
    (λ (h : k ≡ i).
    let n = subst (λ z. IsMore one other z o) h m in
    no_more (get_or one i 0) (get_or other i 0) o (ap (λ z. bit_at z o) e ∙ bit_at-zero o) n.in_one n.in_other)
    cases
  where
    cases : (k < i) ⊎ (k ≡ i)
    cases = grind arith

-- else the lowest is the first pair
pub row_first : (one other : List ℕ) (i : ℕ) → i < length one → get_or one i 0 < 2 ^ 64 → more_of (get_or one i 0) (get_or other i 0) ≢ 0 → ((k o : ℕ) → k < i → IsMore one other k o → ⊥) → IsFirstMore one other i (trailing_zeros w64 (more_of (get_or one i 0) (get_or other i 0)))
row_first one other i there small some before =
    let a = get_or one i 0 in
    let b = get_or other i 0 in
    let few = and_le_l a (bit_xor a b) in
    let t = bit_at-trailing_zeros w64 (more_of a b) (omega arith) (omega arith) in
    let r = more_gives a b (trailing_zeros w64 (more_of a b)) t.1 in
    record {
      more = record { there = there; in_one = r.0; in_other = r.1 };
      first = λ j p m. ⊎_elim
          (λ (h : j < i). absurd (before j p h m))
          (λ q. ⊎_elim
          (λ (h : j ≡ i).
          let n = subst (λ z. IsMore one other z p) h m in
          ⊎_elim
          (λ (l : p < trailing_zeros w64 (more_of a b)). absurd (no_more a b p (t.2 p l) n.in_one n.in_other))
          (λ (l : trailing_zeros w64 (more_of a b) ≤ p). inr (sym h, l))
          (order p (trailing_zeros w64 (more_of a b))))
          (λ (h : i < j). inl h)
          q)
          (cases j);
    }
  where
    cases : (j : ℕ) → (j < i) ⊎ ((j ≡ i) ⊎ (i < j))
    cases j = grind arith

    order : (p t : ℕ) → (p < t) ⊎ (t ≤ p)
    order p t = grind arith

pub all_passed : (one other : List ℕ) (n : ℕ) → (n < length one → ⊥) → ((k o : ℕ) → k < n → IsMore one other k o → ⊥) → (i o : ℕ) → IsMore one other i o → ⊥
all_passed one other n h before i o m = let l = m.there in before i o (omega arith) m
