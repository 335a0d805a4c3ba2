-- The lowest binary digits of a number.
use Rattle.std.proofs.Common.{◌≡◌, ℕ, zero, suc, ◌+◌, ◌-◌, ◌*◌, ◌/◌, ◌%◌, ◌^◌, ◌<◌, ◌≤◌, Bool, true, false, cond, eqb, List, [], ◌∷◌, ◌++◌, length, replicate, refl, sym, ap, ◌∙◌, subst, ⊎_elim, arith, length-append}
use Rattle.std.proofs.Math.Nat.{pow-le-pow_right, pow-suc, mod-eq_of_lt, mod-mod, div-eq_of_lt, le-div_iff_mul-le, div-lt_iff_lt-mul}
use Rattle.std.proofs.lemmas.List.{length-replicate}
use Rattle.std.proofs.lemmas.Nat.{mod-pow-add, leading_top, pow_pos}
use Rattle.std.proofs.lemmas.Bool.{eq-eqb, cases_lt}
use Rattle.std.specs.Int.Count.{count_leading_zeros}
use mir.Val.{bool_byte}
use Rattle.bit_pack.specs.Bits.{number, low_bits}
use Rattle.bit_pack.proofs.Numbers.{digit_back, number_small, number-append, number-push, number-zeros, same_from_number}

pub length-low_bits : (w n : ℕ) → length (low_bits w n) ≡ w
unfolding low_bits
length-low_bits zero n = refl
length-low_bits (suc w) n = omega (arith, length-append (low_bits w (n / 2)) (eqb (n % 2) 1 ∷ []), length-low_bits w (n / 2))

pub number-low_bits : (w n : ℕ) → number (low_bits w n) ≡ n % 2 ^ w
unfolding low_bits
number-low_bits zero n = omega arith
number-low_bits (suc w) n =
    number-push (low_bits w (n / 2)) (eqb (n % 2) 1) ∙
    (ap (λ z. z * 2 + cond (eqb (n % 2) 1) 1 0) (number-low_bits w (n / 2)) ∙ (ap (λ z. n / 2 % 2 ^ w * 2 + z) (digit_back (n % 2) (omega arith)) ∙ sym (split n w)))
  where
    split : (n w : ℕ) → n % 2 ^ suc w ≡ n / 2 % 2 ^ w * 2 + n % 2
    split n w = let e : suc w ≡ w + 1 = omega arith in ap (λ z. n % 2 ^ z) e ∙ mod-pow-add n w 1

pub low_bits-number : (bits : List Bool) (w : ℕ) → length bits ≡ w → low_bits w (number bits) ≡ bits
low_bits-number bits w l =
    let s : number bits < 2 ^ w = subst (λ z. number bits < 2 ^ z) l (number_small bits) in
    let m : number bits % 2 ^ w ≡ number bits = mod-eq_of_lt s in
    same_from_number (low_bits w (number bits)) bits (length-low_bits w (number bits) ∙ sym l) (number-low_bits w (number bits) ∙ m)

-- a number is told by its lowest digits, if it has no others
pub number_of_low_bits : (w n : ℕ) → n < 2 ^ w → number (low_bits w n) ≡ n
number_of_low_bits w n h = number-low_bits w n ∙ mod-eq_of_lt h

pub low_bits-add : (a b n : ℕ) → low_bits (a + b) n ≡ low_bits a (n / 2 ^ b) ++ low_bits b n
low_bits-add a b n =
    let x = low_bits a (n / 2 ^ b) in
    let y = low_bits b n in
    same_from_number (low_bits (a + b) n) (x ++ y)
    (omega (arith, length-low_bits (a + b) n, length-append x y, length-low_bits a (n / 2 ^ b), length-low_bits b n))
    (number-low_bits (a + b) n ∙ (mod-pow-add n a b ∙ sym (number-append x y ∙
    (ap (λ z. number x * 2 ^ z + number y) (length-low_bits b n) ∙ (ap (λ z. z * 2 ^ b + number y) (number-low_bits a (n / 2 ^ b)) ∙ ap (λ z. n / 2 ^ b % 2 ^ a * 2 ^ b + z) (number-low_bits b n))))))

pub low_bits-mod : (w n : ℕ) → low_bits w (n % 2 ^ w) ≡ low_bits w n
low_bits-mod w n =
    same_from_number (low_bits w (n % 2 ^ w)) (low_bits w n) (length-low_bits w (n % 2 ^ w) ∙ sym (length-low_bits w n)) (number-low_bits w (n % 2 ^ w) ∙ (mod-mod n (2 ^ w) ∙ sym (number-low_bits w n)))

pub low_bits-zero : (w : ℕ) → low_bits w 0 ≡ replicate w false
low_bits-zero w =
    let m : 0 % 2 ^ w ≡ 0 = mod-eq_of_lt (pow_pos w) in
    same_from_number (low_bits w 0) (replicate w false) (length-low_bits w 0 ∙ sym (length-replicate w false)) (number-low_bits w 0 ∙ (m ∙ sym (number-zeros w)))

-- a number with no more digits has zeros before them
pub low_bits-zeros : (z w n : ℕ) → n < 2 ^ w → low_bits (z + w) n ≡ replicate z false ++ low_bits w n
low_bits-zeros z w n h =
    let none : n / 2 ^ w ≡ 0 = div-eq_of_lt h in
    low_bits-add z w n ∙ ap (λ k. k ++ low_bits w n) (ap (low_bits z) none ∙ low_bits-zero z)

-- what is below a power of 2 is below the higher ones
pub more_digits : (n v w : ℕ) → n < 2 ^ v → v ≤ w → n < 2 ^ w
more_digits n v w h order = within n (2 ^ v) (2 ^ w) h (pow-le-pow_right (omega arith) order)
  where
    within : (n a b : ℕ) → n < a → a ≤ b → n < b
    within n a b h k = omega arith

pub low_bits-one : (n : ℕ) → low_bits 1 n ≡ eqb (n % 2) 1 ∷ []
unfolding low_bits
low_bits-one n = refl

-- the first of them
pub low_bits-suc : (w n : ℕ) → low_bits (suc w) n ≡ eqb (n / 2 ^ w % 2) 1 ∷ low_bits w n
low_bits-suc w n =
    let e : suc w ≡ 1 + w = omega arith in
    ap (λ k. low_bits k n) e ∙ (low_bits-add 1 w n ∙ ap (λ k. k ++ low_bits w n) (low_bits-one (n / 2 ^ w)))

-- The lowest digits of a number that is not 0 and has no more digits begin with zeros and a one.
-- They are as many as its leading zeros, but for the digits that are left out
pub leading_zeros : (v w n : ℕ) → 0 < n → n < 2 ^ w → w ≤ v → (j : ℕ) × (count_leading_zeros v n + suc j ≡ v) × (suc j ≤ w) × (low_bits w n ≡ replicate (w - suc j) false ++ true ∷ low_bits j n)
leading_zeros v w n h small order =
    let t = leading_top v n h (more_digits n w v small order) in
    let j = t.0 in
    let few : suc j ≤ w = ⊎_elim (λ (l : w < suc j). let p : 2 ^ w ≤ 2 ^ j = pow-le-pow_right (omega arith) (omega arith) in absurd (omega (arith, t.2))) (λ l. l) (cases_lt w (suc j)) in
    let k : w ≡ (w - suc j) + suc j = omega arith in
    let none : n / 2 ^ suc j ≡ 0 = div-eq_of_lt t.3 in
    let one : n / 2 ^ j % 2 ≡ 1 = top n (2 ^ j) (2 ^ suc j) (pow-suc 2 j) t.2 t.3 in (
      j,
      t.1,
      few,
      ap (λ i. low_bits i n) k ∙ (low_bits-add (w - suc j) (suc j) n ∙ (ap (λ i. low_bits (w - suc j) i ++ low_bits (suc j) n) none ∙
          (ap (λ i. i ++ low_bits (suc j) n) (low_bits-zero (w - suc j)) ∙ ap (λ i. replicate (w - suc j) false ++ i) (low_bits-suc j n ∙ ap (λ b. b ∷ low_bits j n) (eq-eqb (n / 2 ^ j % 2) 1 one))))),
    )
  where
    top : (n p q : ℕ) → q ≡ p * 2 → p ≤ n → n < q → n / p % 2 ≡ 1
    top n p q e l m =
        let some : 0 < p = omega arith in
        let low : 1 ≤ n / p = (le-div_iff_mul-le some).1 (omega arith) in
        let high : n / p < 2 = (div-lt_iff_lt-mul some).1 (omega arith) in
        omega arith

-- one bit as a digit
pub low_bits-bit : (b : Bool) → low_bits 1 (bool_byte b) ≡ b ∷ []
unfolding low_bits
low_bits-bit true = refl
low_bits-bit false = refl
