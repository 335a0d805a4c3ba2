-- Words that are numbers, as they are parsed.
use Rattle.std.proofs.Common.{◌≡◌, ℕ, ◌<◌, ◌≤◌, ◌^◌, Bool, true, false, cond, not, ◌&&◌, ◌==◌, nat_le, List, [], ◌∷◌, Some, None, refl, ap, ap₂, sym, subst, arith, drop, true≢false}
use Rattle.std.specs.Prelude.{Err}
use Rattle.std.specs.List.{list_all}
use Rattle.std.specs.Char.{digit_value}
use Rattle.std.specs.Str.Parse.{AllDigits, IsNumeral, digits_value, without_leading_plus, ParsesUnsigned}
use Rattle.std.proofs.lemmas.Bool.{and_parts}
use Rattle.std.proofs.lemmas.Bool.Decides.{nat_tests}
use Rattle.std.proofs.lemmas.Str.{digit_value_digit}
use Rattle.cmd_make.specs.Words.{is_digit, is_number, number_in}

-- a digit has a value below 10
small_digit : (b : ℕ) → is_digit b ≡ true → digit_value b < 10
small_digit b e =
    let p = and_parts (nat_le 48 b) (nat_le b 57) e in
    let from : 48 ≤ b = let t : nat_le 48 b ≡ true = p.0 in grind (arith, nat_tests) in
    let to : b ≤ 57 = let t : nat_le b 57 ≡ true = p.1 in grind (arith, nat_tests) in
    let value = digit_value_digit b (from, to) in omega (arith, value)

all_small : (bs : List ℕ) → list_all is_digit bs ≡ true → AllDigits 10 bs
all_small [] e = tt
all_small (b ∷ bs) e = let p = and_parts (is_digit b) (list_all is_digit bs) e in (small_digit b p.0, all_small bs p.1)

-- a digit is no sign
no_sign : (b : ℕ) → is_digit b ≡ true → b == 43 ≡ false
no_sign b e = let p = and_parts (nat_le 48 b) (nat_le b 57) e in let t : nat_le 48 b ≡ true = p.0 in grind (arith, nat_tests)

-- all bytes of a number are digits
digits_of : (w : List ℕ) → is_number w ≡ true → list_all is_digit w ≡ true
digits_of [] e = absurd (true≢false (sym e))
digits_of (b ∷ []) e = ap (λ t. t && true) e
digits_of (b ∷ c ∷ bs) e = (and_parts (not (b == 48)) (list_all is_digit (b ∷ c ∷ bs)) e).1

-- a number is a numeral without a sign
is_numeral : (w : List ℕ) → is_number w ≡ true → IsNumeral 10 w
is_numeral [] e = absurd (true≢false (sym e))
is_numeral (b ∷ bs) e = (omega arith, all_small (b ∷ bs) (digits_of (b ∷ bs) e))

unsigned : (w : List ℕ) → is_number w ≡ true → without_leading_plus w ≡ w
unsigned [] e = absurd (true≢false (sym e))
unsigned (b ∷ bs) e =
    let first = (and_parts (is_digit b) (list_all is_digit bs) (digits_of (b ∷ bs) e)).0 in
    ap (λ t. drop (cond t 1 0) (b ∷ bs)) (no_sign b first)

-- a number up to `most`, and one above it
by_size : (most : ℕ) (w : List ℕ) (small : Bool) → is_number w ≡ true → nat_le (digits_value 10 w) most ≡ small → number_in most w ≡ cond small (Some (digits_value 10 w)) None
by_size most w small e size = ap₂ (λ a b. cond (a && b) (Some (digits_value 10 w)) None) e size

-- a number whose digits have no value of 64 bits is above it
pub number_too_long : {E : Type 0} (most : ℕ) (w : List ℕ) (x : E) → is_number w ≡ true → most < 2 ^ 64 → ParsesUnsigned 64 10 w (Err x) → None ≡ number_in most w
number_too_long most w x e room parsed = by (nat_le (digits_value 10 w) most) refl
  where
    value : digits_value 10 (without_leading_plus w) ≡ digits_value 10 w
    value = ap (digits_value 10) (unsigned w e)

    by : (small : Bool) → nat_le (digits_value 10 w) most ≡ small → None ≡ number_in most w
    by false size = sym (by_size most w false e size)
    by true size =
        let fits : digits_value 10 (without_leading_plus w) < 2 ^ 64 = let within : digits_value 10 w ≤ most = grind (arith, nat_tests) in omega (arith, value, within, room) in
        absurd (parsed (subst (IsNumeral 10) (sym (unsigned w e)) (is_numeral w e), fits))
