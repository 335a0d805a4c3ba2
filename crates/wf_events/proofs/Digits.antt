-- Numbers that grow digit by digit.
use Rattle.std.proofs.Common.{◌≡◌, ℕ, ◌+◌, ◌-◌, ◌*◌, ◌/◌, ◌%◌, ◌^◌, ◌<◌, ◌≤◌, List, [], ◌∷◌, ◌++◌, length, take, drop, get_or, Option, Some, None, IfSome, SomeIff, sym, ap, ap₂, ◌∙◌, arith, decimal}
use Rattle.std.proofs.lemmas.Fmt.{decimal_digit, decimal_step}
use Rattle.std.proofs.lemmas.List.{take_rest}

decimal_more : (n d m b : ℕ) → 0 < n → d < 10 → b ≡ 48 + d → m ≡ n * 10 + d → m < 2 ^ 64 → decimal m ≡ decimal n ++ b ∷ []
decimal_more n d m b some small digit is fits =
    let front : m / 10 ≡ n = omega arith in
    let last : 48 + m % 10 ≡ b = omega arith in
    decimal_step m (omega arith) fits ∙ ap₂ (λ (a z : ℕ). decimal a ++ z ∷ []) front last

-- one digit more, where it fits
pub digit_more : (n d tens b : ℕ) (r : Option ℕ) → 0 < n → d < 10 → b ≡ 48 + d → tens ≡ n * 10 → SomeIff r (tens + d < 2 ^ 64) (tens + d) → IfSome r (λ m. decimal m ≡ decimal n ++ b ∷ [])
digit_more n d tens b None some small digit ten h = tt
digit_more n d tens b (Some m) some small digit ten h = decimal_more n d m b some small digit (h.1 ∙ ap (λ t. t + d) ten) (omega (arith, h.0, h.1))

-- a digit at the front is a number
pub first_digit : (bytes rest : List ℕ) (d n : ℕ) → 1 ≤ length bytes → d < 10 → get_or bytes 0 0 ≡ 48 + d → rest ≡ take (length bytes - 1) (drop 1 bytes) → n ≡ d → bytes ≡ decimal n ++ rest
first_digit [] rest d n some small digit is same = absurd (omega arith)
first_digit (b ∷ bs) rest d n some small digit is same =
    ap (λ z. z ∷ bs) digit ∙ ap (λ t. t ++ bs) (sym (decimal_digit d small)) ∙ ap₂ (λ (m : ℕ) (t : List ℕ). decimal m ++ t) (sym same) (sym (is ∙ take_rest (b ∷ bs) 1))
