-- The lowest column on which two rows differ, and the first pair on which two lists of rows do.
use Rattle.std.proofs.Common.{◌≡◌, ◌≢◌, ℕ, ◌+◌, ◌%◌, ◌^◌, ◌<◌, ◌==◌, Bool, true, false, not, List, length, get_or, bit_xor, refl, sym, ap, ◌∙◌, subst, ⊎_elim, arith}
use Rattle.std.specs.Int.{bit_at, w64, trailing_zeros}
use Rattle.std.proofs.lemmas.Bool.Decides.{nat_tests}
use Rattle.std.proofs.lemmas.Nat.{xor_lt}
use Rattle.std.proofs.lemmas.Nat.Bits.{bit_at_xor, bit_at-lt, bit_at-trailing_zeros, same_from_bits}
use Rattle.bool_mat.specs.Matrix.{has}
use Rattle.wf_safe.specs.Disagreeing.{IsFirstDifference}

-- the column o is the lowest on which two rows differ
pub record IsLowest (a b o : ℕ) : Type 0 where
  pub below : o < 64
  pub differ : has b o ≡ not (has a o)
  pub lower : (j : ℕ) → j < o → has a j ≡ has b j

odd_sum : (x y : ℕ) → x < 2 → y < 2 → (x + y) % 2 ≡ 1 → (y == 1) ≡ not (x == 1)
odd_sum x y h k e = grind (arith, nat_tests)

even_sum : (x y : ℕ) → x < 2 → y < 2 → (x + y) % 2 ≡ 0 → x ≡ y
even_sum x y h k e = grind arith

pub lowest_of : (a b : ℕ) → a < 2 ^ 64 → b < 2 ^ 64 → bit_xor a b ≢ 0 → IsLowest a b (trailing_zeros w64 (bit_xor a b))
unfolding has
lowest_of a b ha hb n =
    let t = bit_at-trailing_zeros w64 (bit_xor a b) (omega arith) (xor_lt 64 a b ha hb) in
    record {
      below = t.0;
      differ = odd_sum (bit_at a (trailing_zeros w64 (bit_xor a b))) (bit_at b (trailing_zeros w64 (bit_xor a b))) (bit_at-lt a (trailing_zeros w64 (bit_xor a b))) (bit_at-lt b (trailing_zeros w64 (bit_xor a b))) (sym (bit_at_xor a b (trailing_zeros w64 (bit_xor a b))) ∙ t.1);
      lower = λ j l. ap (λ z. z == 1) (even_sum (bit_at a j) (bit_at b j) (bit_at-lt a j) (bit_at-lt b j) (sym (bit_at_xor a b j) ∙ t.2 j l));
    }

-- rows that do not differ are equal
pub no_difference : (a b : ℕ) → bit_xor a b ≡ 0 → a ≡ b
no_difference a b e = same_from_bits a b (λ i. even_sum (bit_at a i) (bit_at b i) (bit_at-lt a i) (bit_at-lt b i) (sym (bit_at_xor a b i) ∙ (ap (λ z. bit_at z i) e ∙ zero i)))
  where
    zero : (i : ℕ) → bit_at 0 i ≡ 0
    zero = Rattle.std.proofs.lemmas.Nat.Bits.bit_at-zero

not_not : (b : Bool) → not (not b) ≡ b
not_not true = refl
not_not false = refl

pub first_differing : (one other : List ℕ) (i o : ℕ) (b : Bool) → i < length one → ((k : ℕ) → k < i → get_or one k 0 ≡ get_or other k 0) → IsLowest (get_or one i 0) (get_or other i 0) o → b ≡ has (get_or one i 0) o → IsFirstDifference one other (record { input = record { 0 = i }; output = record { 0 = o }; in_first = b })
first_differing one other i o b l before low e = record {
  input = l;
  in_one = sym e;
  in_other = low.differ ∙ ap not (sym e);
  first = λ j k c. ⊎_elim (λ (h : j < i). ap (λ z. has z k) (before j h))
      (λ (h : (j ≡ i) × (k < o)). subst (λ z. has (get_or one z 0) k ≡ has (get_or other z 0) k) (sym h.0) (low.lower k h.1)) c;
}
