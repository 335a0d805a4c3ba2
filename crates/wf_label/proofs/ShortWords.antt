-- Bits that are all held in a word of 64.
use Rattle.std.proofs.Common.{◌≡◌, ℕ, zero, suc, ◌+◌, ◌-◌, ◌*◌, ◌/◌, ◌^◌, ◌<◌, ◌≤◌, Bool, true, false, List, [], ◌∷◌, ◌++◌, length, take, drop, replicate, refl, sym, ap, ◌∙◌, arith, append_assoc, length-append}
use Rattle.std.proofs.Math.Nat.{pow-suc, le-div_iff_mul-le, div-lt_iff_lt-mul}
use Rattle.std.proofs.Math.Seq.{take-length}
use Rattle.std.proofs.lemmas.List.{take_at, length-replicate}
use Rattle.std.proofs.lemmas.Nat.{pow_pos}
use Rattle.std.specs.Int.Count.{count_leading_zeros, leading_unique}
use Rattle.bit_pack.specs.Bits.{number}
use Rattle.bit_pack.specs.Gamma.{gamma, Begins}
use Rattle.bit_pack.specs.Reading.{Reading, IsPadding, IsWord}
use Rattle.bit_pack.proofs.Codes.{gamma_is, prefix_free_law}
use Rattle.bit_pack.proofs.Numbers.{number-push, number-zeros, same_from_number}
use Rattle.bit_pack.proofs.Words.{front_number}
use Rattle.wf_label.specs.Parts.{IsNumberRead, HasNoNumber}

no_times : (p : ℕ) → 0 * p ≡ 0
no_times p = omega arith

none_times : (x p : ℕ) → 0 < p → x * p ≡ 0 → x ≡ 0
none_times zero p h e = refl
none_times (suc x) p h e = absurd (omega arith)

one_time : (a p : ℕ) → 0 < p → a / p ≡ 1 → (p ≤ a) × (a < 2 * p)
one_time a p some e =
    let low : 1 * p ≤ a = (le-div_iff_mul-le some).0 (omega arith) in
    let high : a < 2 * p = (div-lt_iff_lt-mul some).0 (omega arith) in
    (omega arith, high)

-- the code of a number above is that of none below
pub no_number_above : (count n : ℕ) (bits left : List Bool) → count < n → Begins bits n left → HasNoNumber count bits
no_number_above count n bits left above b k rest low e =
    let r = prefix_free_law n (k + 1) left rest b.from_one (omega arith) (sym b.is ∙ e) in
    omega (arith, r.0)

-- a code was read, and the number that it is of
pub code_read : (n long : ℕ) (a b : Reading) → Begins a.left n (drop long a.left) → length (gamma n) ≡ long → b.left ≡ drop long a.left → b.at ≡ a.at + long → IsNumberRead (n - 1) a b
code_read n long a b code is left at =
    let some = code.from_one in
    let e : n ≡ n - 1 + 1 = omega arith in record {
      is = code.is ∙ (ap (λ z. gamma n ++ z) (sym left) ∙ ap (λ k. gamma k ++ b.left) e);
      at = at ∙ (ap (λ k. a.at + k) (sym is) ∙ ap (λ k. a.at + length (gamma k)) e);
    }

module _ (bits : List Bool) (held word : ℕ) (w : IsWord bits held word) (all : held ≡ length bits) where
  number_held : number (take held bits) ≡ number bits
  number_held = ap (λ n. number (take n bits)) all ∙ ap number (take-length bits)

  -- few bits whose word is 0 are padding, and no others
  pub word_padding : held < 8 → word ≡ 0 → IsPadding bits
  word_padding few e =
      let none : number bits ≡ 0 = sym number_held ∙ none_times (number (take held bits)) (2 ^ (64 - held)) (pow_pos (64 - held)) (sym w.is ∙ e) in
      record { few = omega arith; zeros = same_from_number bits (replicate (length bits) false) (sym (length-replicate (length bits) false)) (none ∙ sym (number-zeros (length bits))) }

  pub padding_word : IsPadding bits → word ≡ 0
  padding_word p =
      let none : number (take held bits) ≡ 0 = number_held ∙ (ap number p.zeros ∙ number-zeros (length bits)) in
      w.is ∙ (ap (λ n. n * 2 ^ (64 - held)) none ∙ no_times (2 ^ (64 - held)))

  -- zeros, a one and fewer bits than there are zeros begin with no code
  pub no_number_held : (z : ℕ) → z ≡ count_leading_zeros 64 word → held < 2 * z + 1 → (count : ℕ) → HasNoNumber count bits
  no_number_held z is short count n rest low e =
      let s = gamma_is (n + 1) (omega arith) rest in
      let j = length s.0 in
      let spelt : bits ≡ replicate j false ++ true ∷ (s.0 ++ rest) = e ∙ s.3 in
      let long : length bits ≡ j + suc (j + length rest) = omega (arith, ap length spelt, length-append (replicate j false) (true ∷ (s.0 ++ rest)), length-replicate j false, length-append s.0 rest) in
      let inside : j + 1 ≤ held = omega arith in
      let few : length (replicate j false ++ true ∷ []) ≡ j + 1 = omega (arith, length-append (replicate j false) (true ∷ []), length-replicate j false) in
      let first : take (j + 1) bits ≡ replicate j false ++ true ∷ [] =
      ap (take (j + 1)) (spelt ∙ sym (append_assoc (replicate j false) (true ∷ []) (s.0 ++ rest))) ∙ take_at (replicate j false ++ true ∷ []) (s.0 ++ rest) (j + 1) few in
      let one : word / 2 ^ (64 - (j + 1)) ≡ 1 = front_number bits held word w (j + 1) inside ∙ (ap number first ∙ omega (arith, number-push (replicate j false) true, number-zeros j)) in
      let high = one_time word (2 ^ (64 - (j + 1))) (pow_pos (64 - (j + 1))) one in
      let next : 64 - j ≡ suc (64 - (j + 1)) = omega (arith, w.few) in
      let twice : 2 ^ (64 - j) ≡ 2 ^ (64 - (j + 1)) * 2 = ap (λ k. 2 ^ k) next ∙ pow-suc 2 (64 - (j + 1)) in
      let zeros : j ≡ count_leading_zeros 64 word = leading_unique 64 word j (64 - j) (omega (arith, w.few)) (omega (arith, twice, high.1)) (omega (arith, twice, high.0)) in
      absurd (omega (arith, zeros, is, short, long, all))
