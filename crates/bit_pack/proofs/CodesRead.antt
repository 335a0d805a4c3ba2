-- What the bits from a place on tell of a code.
use Rattle.std.proofs.Common.{◌≡◌, ℕ, suc, ◌+◌, ◌-◌, ◌*◌, ◌^◌, ◌<◌, ◌≤◌, Bool, true, false, cond, List, ◌∷◌, ◌++◌, length, take, drop, replicate, sym, ap, ◌∙◌, arith, append_assoc, length-append}
use Rattle.std.proofs.lemmas.List.{drop-drop, drop_at, length-take-le, length-drop, length-replicate, take-append-drop}
use Rattle.std.proofs.lemmas.Nat.{pow_pos}
use Rattle.bit_pack.specs.Bits.{number}
use Rattle.bit_pack.specs.Gamma.{gamma, Begins, BeginsAbove, HasNoCode}
use Rattle.bit_pack.specs.Reading.{IsNextOne}
use Rattle.bit_pack.proofs.Fronts.{same_zeros}
use Rattle.bit_pack.proofs.Numbers.{number-cons}
use Rattle.bit_pack.proofs.Codes.{gamma_is, prefix_free_law, spelling_law, no_code_in_zeros}

-- among zeros there is no code
pub no_code_left : (bits : List Bool) (p : ℕ) → bits ≡ replicate p false → HasNoCode bits
no_code_left bits p e n left h k = no_code_in_zeros n p left h (sym k ∙ e)

module _ (bits : List Bool) (from at : ℕ) (i : IsNextOne bits from at) where
  -- the bits from the first one on
  from_one : drop at bits ≡ true ∷ drop (at + 1) bits
  from_one =
      let k : from + (at - from) ≡ at = omega (arith, i.order) in
      ap (λ z. drop z bits) (sym k) ∙ (sym (drop-drop (at - from) from bits) ∙ (ap (drop (at - from)) i.is ∙ drop_at (replicate (at - from) false) (true ∷ drop (at + 1) bits) (at - from) (length-replicate (at - from) false)))

  behind : length (drop (at + 1) bits) + at + 1 ≡ length bits
  behind = omega (arith, length-drop (at + 1) bits, i.inside)

  -- fewer bits behind the one than zeros before it
  pub no_code_cut : length bits ≤ at + (at - from) → HasNoCode (drop from bits)
  no_code_cut short n left h e =
      let s = gamma_is n h left in
      let z = same_zeros (at - from) (length s.0) (drop (at + 1) bits) (s.0 ++ left) (sym i.is ∙ (e ∙ s.3)) in
      absurd (omega (arith, z.0, behind, ap length z.1, length-append s.0 left))

  -- as many bits behind the one as zeros before it, or more
  module _ (whole : at + (at - from) < length bits) (n : ℕ) (told : n ≡ number (take (at - from + 1) (drop at bits))) where
    digits_behind : List Bool
    digits_behind = take (at - from) (drop (at + 1) bits)

    digits_long : length digits_behind ≡ at - from
    unfolding digits_behind
    digits_long = length-take-le (at - from) (drop (at + 1) bits) (omega (arith, behind))

    told_by : n ≡ number (true ∷ digits_behind)
    unfolding digits_behind
    told_by =
        let k : at - from + 1 ≡ suc (at - from) = omega arith in
        told ∙ ap number (ap (λ z. take z (drop at bits)) k ∙ ap (take (suc (at - from))) from_one)

    code_is : gamma n ≡ replicate (at - from) false ++ true ∷ digits_behind
    code_is = ap gamma told_by ∙ (sym (spelling_law digits_behind) ∙ ap (λ z. replicate z false ++ true ∷ digits_behind) digits_long)

    -- the number has as many digits as there are zeros, and one more
    pub number_high : 2 ^ (at - from) ≤ n
    number_high =
        let k : n ≡ cond true 1 0 * 2 ^ length digits_behind + number digits_behind = told_by ∙ number-cons true digits_behind in
        let l : 2 ^ length digits_behind ≡ 2 ^ (at - from) = ap (λ z. 2 ^ z) digits_long in
        omega arith

    pub code_begins : Begins (drop from bits) n (drop (at + (at - from) + 1) bits)
    unfolding digits_behind
    code_begins =
        let z = at - from in
        let left = drop (at + z + 1) bits in
        let k : (at + 1) + z ≡ at + z + 1 = omega arith in
        let d : drop z (drop (at + 1) bits) ≡ left = drop-drop z (at + 1) bits ∙ ap (λ j. drop j bits) k in
        let t : drop (at + 1) bits ≡ digits_behind ++ left = sym (take-append-drop z (drop (at + 1) bits)) ∙ ap (λ j. digits_behind ++ j) d in
        let p = number_high in
        let q = pow_pos z in
        record {
          from_one = omega arith;
          is = i.is ∙ (ap (λ j. replicate z false ++ true ∷ j) t ∙ (sym (append_assoc (replicate z false) (true ∷ digits_behind) left) ∙ ap (λ j. j ++ left) (sym code_is)));
        }

    pub code_long : length (gamma n) ≡ at - from + (at - from) + 1
    code_long = omega (arith, ap length code_is, length-append (replicate (at - from) false) (true ∷ digits_behind), length-replicate (at - from) false, digits_long)

-- the ways in which a code is read exclude each other
pub ended_told : (bits : List Bool) (most : ℕ) → HasNoCode bits → BeginsAbove bits most → ⊥
ended_told bits most h b = h b.0 b.1 (omega (arith, b.2)) b.3

pub number_told : (bits : List Bool) (n most : ℕ) (left : List Bool) → n ≤ most → Begins bits n left → BeginsAbove bits most → ⊥
number_told bits n most left h b a =
    let r = prefix_free_law n a.0 left a.1 b.from_one (omega (arith, a.2)) (sym b.is ∙ a.3) in
    absurd (omega (arith, r.0, a.2))
