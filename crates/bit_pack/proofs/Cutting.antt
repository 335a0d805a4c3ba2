-- Bits that are cut off the end of bytes.
use Rattle.std.proofs.Common.{◌≡◌, ℕ, suc, ◌+◌, ◌-◌, ◌*◌, ◌/◌, ◌%◌, ◌^◌, ◌<◌, ◌≤◌, Bool, false, List, [], ◌∷◌, ◌++◌, length, get_or, take, drop, set, replicate, sym, ap, ◌∙◌, subst, arith, append_assoc, append-nil, length-append}
use Rattle.std.proofs.lemmas.List.{drop_at, drop_all, take_at, set_split, take-append-drop, take-append-le, length-take-le, length-replicate}
use Rattle.std.proofs.lemmas.Nat.{shr_below, shl_whole}
use Rattle.bit_pack.specs.Bits.{number, low_bits, bits_of}
use Rattle.bit_pack.specs.Written.{first_bits, IsFilled}
use Rattle.bit_pack.proofs.LowBits.{length-low_bits, number_of_low_bits, low_bits-number}
use Rattle.bit_pack.proofs.Packing.{length-bits_of, bits_of-append, number-zeros_after}
use Rattle.bit_pack.proofs.Bytes.{bits_before}
use Rattle.bit_pack.proofs.Filling.{length-first_bits}

-- bytes that have these bits, and then zero bits, fewer than eight, are filled with them
filled_with : (bytes : List ℕ) (bits : List Bool) (n z : ℕ) → bits_of bytes ≡ bits ++ replicate z false → length bits ≡ n → z < 8 → (first_bits bytes n ≡ bits) × IsFilled bytes n
filled_with bytes bits n z e l few =
    let whole : 8 * length bytes ≡ n + z = omega (arith, length-bits_of bytes, ap length e, length-append bits (replicate z false), length-replicate z false) in
    let k : z ≡ 8 * length bytes - n = omega arith in (
      ap (take n) e ∙ take_at bits (replicate z false) n l,
      record {
        free = record { inside = omega arith; zeros = ap (drop n) e ∙ (drop_at bits (replicate z false) n l ∙ ap (λ i. replicate i false) k) };
        few = omega arith;
      },
    )

-- bytes are filled with all of their bits
pub filled_whole : (bytes : List ℕ) (n : ℕ) → 8 * length bytes ≡ n → IsFilled bytes n
filled_whole bytes n h = (filled_with bytes (bits_of bytes) n 0 (sym (append-nil (bits_of bytes))) (length-bits_of bytes ∙ h) (omega arith)).1

-- the first bits stay where bytes behind them are cut off
pub first_kept : (bytes : List ℕ) (at m : ℕ) → at ≤ 8 * m → m ≤ length bytes → first_bits (take m bytes) at ≡ first_bits bytes at
first_kept bytes at m h within =
    let front = bits_of (take m bytes) in
    let l : at ≤ length front = omega (arith, length-bits_of (take m bytes), length-take-le m bytes within) in
    sym (ap (take at) (ap bits_of (sym (take-append-drop m bytes)) ∙ bits_of-append (take m bytes) (drop m bytes)) ∙ take-append-le at front (bits_of (drop m bytes)) l)

-- The last byte keeps its bits before a place, and zero bits follow them
module _ (bytes : List ℕ) (at : ℕ) (within : 0 < at % 8) (last : length bytes ≡ at / 8 + 1) (small : get_or bytes (at / 8) 0 < 256) where
  abbrev kept : ℕ
  kept = get_or bytes (at / 8) 0 / 2 ^ (8 - at % 8)

  kept_small : kept < 2 ^ (at % 8)
  kept_small =
      let k : at % 8 + (8 - at % 8) ≡ 8 = omega arith in
      shr_below (get_or bytes (at / 8) 0) (at % 8) (8 - at % 8) (subst (λ w. get_or bytes (at / 8) 0 < 2 ^ w) (sym k) small)

  pub cleared_fits : kept * 2 ^ (8 - at % 8) % 2 ^ 8 ≡ kept * 2 ^ (8 - at % 8)
  cleared_fits = shl_whole kept (at % 8) (8 - at % 8) 8 kept_small (omega arith)

  cleared_bits : low_bits 8 (kept * 2 ^ (8 - at % 8)) ≡ low_bits (at % 8) kept ++ replicate (8 - at % 8) false
  cleared_bits =
      let b = low_bits (at % 8) kept in
      let z = 8 - at % 8 in
      let n : number (b ++ replicate z false) ≡ kept * 2 ^ z = number-zeros_after b z ∙ ap (λ i. i * 2 ^ z) (number_of_low_bits (at % 8) kept kept_small) in
      ap (low_bits 8) (sym n) ∙ low_bits-number (b ++ replicate z false) 8 (omega (arith, length-append b (replicate z false), length-low_bits (at % 8) kept, length-replicate z false))

  pub cleared : (new : List ℕ) → new ≡ set bytes (at / 8) (kept * 2 ^ (8 - at % 8)) → (first_bits new at ≡ first_bits bytes at) × IsFilled new at
  cleared new e =
      let q = at / 8 in
      let z = 8 - at % 8 in
      let before = bits_of (take q bytes) in
      let b = low_bits (at % 8) kept in
      let none : drop (suc q) bytes ≡ [] = drop_all (suc q) bytes (omega arith) in
      let s : new ≡ take q bytes ++ kept * 2 ^ z ∷ [] = e ∙ (set_split bytes q (kept * 2 ^ z) (omega arith) ∙ ap (λ l. take q bytes ++ kept * 2 ^ z ∷ l) none) in
      let f : first_bits bytes at ≡ before ++ b = bits_before bytes at (omega arith) in
      let is : bits_of new ≡ (before ++ b) ++ replicate z false =
      ap bits_of s ∙ (bits_of-append (take q bytes) (kept * 2 ^ z ∷ []) ∙ (ap (λ l. before ++ l) (append-nil (low_bits 8 (kept * 2 ^ z)) ∙ cleared_bits) ∙ sym (append_assoc before b (replicate z false)))) in
      let l : length (before ++ b) ≡ at = sym (ap length f) ∙ length-first_bits bytes at (omega arith) in
      let r = filled_with new (before ++ b) at z is l (omega arith) in
      (r.0 ∙ sym f, r.1)
