-- The squares for the binary digits of a number, where digits are passed over.
use Rattle.std.proofs.Common.{◌≡◌, ℕ, zero, suc, ◌+◌, ◌-◌, ◌/◌, ◌%◌, ◌^◌, ◌<◌, ◌≤◌, Bool, true, false, cond, min, w32, [], ◌∷◌, ◌++◌, sym, ap, ◌∙◌, subst, arith, append-nil}
use Rattle.std.specs.Int.{bit_at, trailing_zeros}
use Rattle.std.specs.Prelude.{◌==◌}
use Rattle.std.proofs.Math.Nat.{div-div-eq-div-mul, div-le_self}
use Rattle.std.proofs.lemmas.Nat.{pow-add}
use Rattle.std.proofs.lemmas.Bool.{ne_eqb}
use Rattle.std.proofs.lemmas.Nat.Bits.{bit_at-zero, bit_at-trailing_zeros}
use Rattle.bool_mat.specs.Matrix.{Matrix, IsUnion, has}
use Rattle.bool_mat.proofs.Rows.{has_from}
use Rattle.decode_model.specs.Legs.{squares, still, squares_to}
use Rattle.decode_model.specs.Rows.{Progress}
use Rattle.decode_model.proofs.RowProducts.{progress_law}

-- digits that are 0 add no square
squares_over : (square : ℕ → Matrix) (q k n : ℕ) → ((j : ℕ) → k ≤ j → j < k + n → has q j ≡ false) → squares square q (k + n) ≡ squares square q k
squares_over square q k zero h = let e : k + zero ≡ k = omega arith in ap (squares square q) e
squares_over square q k (suc n) h =
    let one : k + suc n ≡ suc (k + n) = omega arith in
    let none : squares square q (suc (k + n)) ≡ squares square q (k + n) ++ [] = ap (λ b. squares square q (k + n) ++ cond b (square (k + n) ∷ []) []) (h (k + n) (omega arith) (omega arith)) in
    ap (squares square q) one ∙ (none ∙ (append-nil (squares square q (k + n)) ∙ squares_over square q k n (λ j low high. h j low (omega arith))))

pub passed_over : (square : ℕ → Matrix) (q k m first row start now : ℕ) → k ≤ m → ((j : ℕ) → k ≤ j → j < m → has q j ≡ false) → Progress (squares square q k) first row start now → Progress (squares square q m) first row start now
passed_over square q k m first row start now l h p =
    let n : k + (m - k) ≡ m = omega arith in
    subst (λ z. Progress z first row start now) (sym (ap (squares square q) (sym n) ∙ squares_over square q k (m - k) (λ j low high. h j low (omega arith)))) p

div_pow : (q k n : ℕ) → q / 2 ^ k / 2 ^ n ≡ q / 2 ^ (k + n)
div_pow q k n = div-div-eq-div-mul q (2 ^ k) (2 ^ n) ∙ ap (λ z. q / z) (sym (pow-add 2 k n))

-- the digits of what is left after a shift
pub digit_behind : (q k j : ℕ) → k ≤ j → bit_at (q / 2 ^ k) (j - k) ≡ bit_at q j
digit_behind q k j l =
    let n : k + (j - k) ≡ j = omega arith in
    ap (λ z. z % 2) (div_pow q k (j - k) ∙ ap (λ z. q / 2 ^ z) n)

pub zero_digit : (q j : ℕ) → bit_at q j ≡ 0 → has q j ≡ false
unfolding has
zero_digit q j e = ap (λ z. z == 1) e

pub none_left : (q k : ℕ) → q / 2 ^ k ≡ 0 → (j : ℕ) → k ≤ j → has q j ≡ false
none_left q k e j l = zero_digit q j (sym (digit_behind q k j l) ∙ (ap (λ z. bit_at z (j - k)) e ∙ bit_at-zero (j - k)))

-- the digits of a number from a place on are passed over up to the lowest of them that is 1
module _ (q k m end : ℕ) (here : k ≤ end) (fits : q < 2 ^ 32) (some : q / 2 ^ k ≡ 0 → ⊥) (is : m ≡ min (k + trailing_zeros w32 (q / 2 ^ k)) end) where
  lowest : (trailing_zeros w32 (q / 2 ^ k) < 32) × (bit_at (q / 2 ^ k) (trailing_zeros w32 (q / 2 ^ k)) ≡ 1) × ((i : ℕ) → i < trailing_zeros w32 (q / 2 ^ k) → bit_at (q / 2 ^ k) i ≡ 0)
  lowest = bit_at-trailing_zeros w32 (q / 2 ^ k) (omega (arith, some)) (let low = div-le_self q (2 ^ k) in omega (arith, low, fits))

  pub zeros_before : (j : ℕ) → k ≤ j → j < m → has q j ≡ false
  zeros_before j low high = zero_digit q j (sym (digit_behind q k j low) ∙ lowest.2 (j - k) (omega (arith, low, high, is)))

  pub one_there : m < end → has q m ≡ true
  one_there l =
      let t = trailing_zeros w32 (q / 2 ^ k) in
      let e : m ≡ k + t = omega (arith, l, is) in
      let d : m - k ≡ t = omega (arith, e) in
      has_from q m (sym (digit_behind q k m (omega (arith, e))) ∙ (ap (λ i. bit_at (q / 2 ^ k) i) d ∙ lowest.1))

-- when the digits below the first square that is its own square are gone through, it comes once if a higher digit is 1
module _ (square : ℕ → Matrix) (q k end first row start now : ℕ) (is : end ≡ still square) (all : k ≡ end) (p : Progress (squares square q k) first row start now) where
  lower : Progress (squares square q (still square)) first row start now
  lower = subst (λ z. Progress (squares square q z) first row start now) (all ∙ is) p

  ends_by : (b : Bool) → (q / 2 ^ end == 0) ≡ b → squares square q (still square) ++ cond b [] (square (still square) ∷ []) ≡ squares_to square q
  ends_by b e = ap (λ z. squares square q (still square) ++ cond z [] (square (still square) ∷ [])) (sym e ∙ ap (λ z. q / 2 ^ z == 0) is)

  pub no_higher : q / 2 ^ end ≡ 0 → Progress (squares_to square q) first row start now
  no_higher e = subst (λ z. Progress z first row start now) (sym (append-nil (squares square q (still square))) ∙ ends_by true (ap (λ z. z == 0) e)) lower

  pub some_higher : (next later : ℕ) → (q / 2 ^ end ≡ 0 → ⊥) → IsUnion row (square end) next → later ≡ now + 1 → Progress (squares_to square q) first next start later
  some_higher next later n u e =
      subst (λ z. Progress z first next start later) (ends_by false (ne_eqb (q / 2 ^ end) 0 n))
      (progress_law.more (squares square q (still square)) first row start now (square (still square)) next later lower (subst (λ z. IsUnion row (square z) next) is u) e)
