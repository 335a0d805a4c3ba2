-- The number that bits tell.
use Rattle.std.proofs.Common.{◌≡◌, ℕ, zero, suc, ◌+◌, ◌*◌, ◌^◌, ◌<◌, Bool, true, false, cond, eqb, List, [], ◌∷◌, ◌++◌, length, map, replicate, refl, sym, ap, ◌∙◌, subst, arith}
use Rattle.std.proofs.Math.Nat.{pow-suc}
use Rattle.std.proofs.lemmas.List.{length-map, map-append}
use Rattle.std.specs.Int.Digits.{number_from_digits, number_from_digits_after, AllBelowBase}
use Rattle.std.proofs.lemmas.Int.Digits.{number_lt, number_after_append, number_push}
use Rattle.bit_pack.specs.Bits.{number}

digit : Bool → ℕ
digit b = cond b 1 0

-- a binary digit is told by whether it is 1
pub digit_back : (d : ℕ) → d < 2 → cond (eqb d 1) 1 0 ≡ d
digit_back zero h = refl
digit_back (suc zero) h = refl
digit_back (suc (suc d)) h = absurd (omega arith)

below_two : (bits : List Bool) → AllBelowBase 2 (map digit bits)
unfolding digit
below_two [] = tt
below_two (true ∷ bits) = (omega arith, below_two bits)
below_two (false ∷ bits) = (omega arith, below_two bits)

-- the number of so many bits is below so high a power of 2
pub number_small : (bits : List Bool) → number bits < 2 ^ length bits
unfolding digit
number_small bits = subst (λ z. number bits < 2 ^ z) (length-map bits digit) (number_lt 2 (map digit bits) (below_two bits))

-- bits after a number
number_after : (n : ℕ) (bits : List Bool) → number_from_digits_after 2 n (map (λ b. cond b 1 0) bits) ≡ n * 2 ^ length bits + number bits
number_after n [] = omega arith
number_after n (b ∷ bits) =
    step n (cond b 1 0) (2 ^ length bits) (2 ^ suc (length bits)) (number bits) _ _ (pow-suc 2 (length bits)) (number_after (n * 2 + cond b 1 0) bits) (number_after (0 * 2 + cond b 1 0) bits)
  where
    step : (n d p q m x y : ℕ) → q ≡ p * 2 → x ≡ (n * 2 + d) * p + m → y ≡ (0 * 2 + d) * p + m → x ≡ n * q + y
    step n d p q m x y e f g = f ∙ (turn n d p m ∙ (ap (λ z. n * z + ((0 * 2 + d) * p + m)) (sym e) ∙ ap (λ z. n * q + z) (sym g)))
      where
        turn : (n d p m : ℕ) → (n * 2 + d) * p + m ≡ n * (p * 2) + ((0 * 2 + d) * p + m)
        turn n d p m = omega arith

pub number-append : (a b : List Bool) → number (a ++ b) ≡ number a * 2 ^ length b + number b
number-append a b =
    ap (number_from_digits 2) (map-append (λ b. cond b 1 0) a b) ∙
    (number_after_append 2 0 (map (λ b. cond b 1 0) a) (map (λ b. cond b 1 0) b) ∙ number_after (number a) b)

pub number-push : (a : List Bool) (b : Bool) → number (a ++ b ∷ []) ≡ number a * 2 + cond b 1 0
number-push a b = ap (number_from_digits 2) (map-append (λ b. cond b 1 0) a (b ∷ [])) ∙ number_push 2 (map (λ b. cond b 1 0) a) (cond b 1 0)

pub number-cons : (b : Bool) (a : List Bool) → number (b ∷ a) ≡ cond b 1 0 * 2 ^ length a + number a
number-cons b a = number_after (0 * 2 + cond b 1 0) a ∙ ap (λ z. z * 2 ^ length a + number a) one
  where
    one : 0 * 2 + cond b 1 0 ≡ cond b 1 0
    one = omega arith

pub number-zeros : (j : ℕ) → number (replicate j false) ≡ 0
number-zeros zero = refl
number-zeros (suc j) = omega (arith, number-cons false (replicate j false), number-zeros j)

-- so many bits are told by their number
pub same_from_number : (a b : List Bool) → length a ≡ length b → number a ≡ number b → a ≡ b
same_from_number [] [] l e = refl
same_from_number [] (y ∷ b) l e = absurd (omega arith)
same_from_number (x ∷ a) [] l e = absurd (omega arith)
same_from_number (x ∷ a) (y ∷ b) l e =
    let k : length a ≡ length b = omega arith in
    let s : number b < 2 ^ length a = subst (λ z. number b < 2 ^ z) (sym k) (number_small b) in
    let t : cond x 1 0 * 2 ^ length a + number a ≡ cond y 1 0 * 2 ^ length a + number b = sym (number-cons x a) ∙ (e ∙ (number-cons y b ∙ ap (λ z. cond y 1 0 * 2 ^ z + number b) (sym k))) in
    let r = heads x y (2 ^ length a) (number a) (number b) (number_small a) s t in
    ap (λ z. z ∷ a) r.0 ∙ ap (λ z. y ∷ z) (same_from_number a b k r.1)
  where
    heads : (x y : Bool) (p m n : ℕ) → m < p → n < p → cond x 1 0 * p + m ≡ cond y 1 0 * p + n → (x ≡ y) × (m ≡ n)
    heads true true p m n f g h = (refl, omega arith)
    heads true false p m n f g h = absurd (omega arith)
    heads false true p m n f g h = absurd (omega arith)
    heads false false p m n f g h = (refl, omega arith)
