-- The bits of bytes by their places.
use Rattle.std.proofs.Common.{◌≡◌, ℕ, suc, ◌+◌, ◌-◌, ◌*◌, ◌/◌, ◌%◌, ◌^◌, ◌<◌, ◌≤◌, Bool, true, false, List, [], ◌∷◌, ◌++◌, length, get_or, take, drop, replicate, sym, ap, ◌∙◌, subst, arith, append_assoc, append-nil, length-append}
use Rattle.std.proofs.lemmas.List.{drop-drop, take_more, take_at, drop_at, drop_all, drop-append-le, drop_more, take-append-drop, length-take-le, length-drop, length-replicate, replicate-append-replicate}
use Rattle.std.proofs.lemmas.Nat.{and_mask, pow_pos, mod_below}
use Rattle.std.proofs.lemmas.Nat.Bits.{ones_shr}
use Rattle.std.specs.Prelude.{◌≢◌, bit_and}
use Rattle.std.specs.Int.Count.{count_leading_zeros}
use Rattle.bit_pack.specs.Bits.{low_bits, bits_of}
use Rattle.bit_pack.specs.Reading.{IsNextOne, IsPadding}
use Rattle.bit_pack.proofs.Fronts.{no_one}
use Rattle.bit_pack.proofs.LowBits.{length-low_bits, low_bits-add, low_bits-mod, low_bits-zero, leading_zeros}
use Rattle.bit_pack.proofs.Packing.{length-bits_of, bits_of-append}

-- the bits before a byte, its own, and those behind it
pub bits_at : (bytes : List ℕ) (q : ℕ) → q < length bytes → bits_of bytes ≡ bits_of (take q bytes) ++ (low_bits 8 (get_or bytes q 0) ++ bits_of (drop (q + 1) bytes))
bits_at bytes q h =
    ap bits_of (sym (take-append-drop q bytes)) ∙ (bits_of-append (take q bytes) (drop q bytes) ∙ ap (λ z. bits_of (take q bytes) ++ bits_of z) (drop_more bytes q 0 h))

-- the bits before a place: those of the bytes before its byte, and the first of its own
pub bits_before : (bytes : List ℕ) (at : ℕ) → at < 8 * length bytes → take at (bits_of bytes) ≡ bits_of (take (at / 8) bytes) ++ low_bits (at % 8) (get_or bytes (at / 8) 0 / 2 ^ (8 - at % 8))
bits_before bytes at h =
    let q = at / 8 in
    let byte = get_or bytes q 0 in
    let before = bits_of (take q bytes) in
    let after = bits_of (drop (q + 1) bytes) in
    let begun = low_bits (at % 8) (byte / 2 ^ (8 - at % 8)) in
    let rest = low_bits (8 - at % 8) byte ++ after in
    let e : 8 ≡ at % 8 + (8 - at % 8) = omega arith in
    let its : low_bits 8 byte ≡ begun ++ low_bits (8 - at % 8) byte = ap (λ w. low_bits w byte) e ∙ low_bits-add (at % 8) (8 - at % 8) byte in
    let lt : length (take q bytes) ≡ q = length-take-le q bytes (omega arith) in
    let lb : length (before ++ begun) ≡ at = omega (arith, length-append before begun, length-bits_of (take q bytes), lt, length-low_bits (at % 8) (byte / 2 ^ (8 - at % 8))) in
    let s : bits_of bytes ≡ (before ++ begun) ++ rest =
    bits_at bytes q (omega arith) ∙ (ap (λ z. before ++ (z ++ after)) its ∙ (ap (λ z. before ++ z) (append_assoc begun (low_bits (8 - at % 8) byte) after) ∙ sym (append_assoc before begun rest))) in
    ap (take at) s ∙ take_at (before ++ begun) rest at lb

drop_low : (j x : ℕ) → j ≤ 8 → drop j (low_bits 8 x) ≡ low_bits (8 - j) x
drop_low j x h =
    let e : 8 ≡ j + (8 - j) = omega arith in
    ap (λ w. drop j (low_bits w x)) e ∙ (ap (drop j) (low_bits-add j (8 - j) x) ∙ drop_at (low_bits j (x / 2 ^ (8 - j))) (low_bits (8 - j) x) j (length-low_bits j (x / 2 ^ (8 - j))))

-- from a place on: what is left of its byte, and the bytes behind it
pub bits_from : (bytes : List ℕ) (at : ℕ) → at < 8 * length bytes → drop at (bits_of bytes) ≡ low_bits (8 - at % 8) (get_or bytes (at / 8) 0) ++ bits_of (drop (at / 8 + 1) bytes)
bits_from bytes at h =
    let q = at / 8 in
    let x = get_or bytes q 0 in
    let before = bits_of (take q bytes) in
    let after = bits_of (drop (q + 1) bytes) in
    let lt : length (take q bytes) ≡ q = length-take-le q bytes (omega arith) in
    let lb : length before ≡ 8 * q = omega (arith, length-bits_of (take q bytes), lt) in
    let e : at ≡ 8 * q + at % 8 = omega arith in
    ap (λ z. drop z (bits_of bytes)) e ∙ (sym (drop-drop (at % 8) (8 * q) (bits_of bytes)) ∙ (ap (λ z. drop (at % 8) (drop (8 * q) z)) (bits_at bytes q (omega arith)) ∙
    (ap (drop (at % 8)) (drop_at before (low_bits 8 x ++ after) (8 * q) lb) ∙ (drop-append-le (at % 8) (low_bits 8 x) after (omega (arith, length-low_bits 8 x)) ∙ ap (λ z. z ++ after) (drop_low (at % 8) x (omega arith))))))

pub no_bit : (bytes : List ℕ) (at : ℕ) → length bytes ≤ at / 8 → drop at (bits_of bytes) ≡ []
no_bit bytes at h = drop_all at (bits_of bytes) (omega (arith, length-bits_of bytes))

-- after so many zeros comes a one
pub next_one_is : (bits : List Bool) (from z at : ℕ) (x : List Bool) → at ≡ from + z → drop from bits ≡ replicate z false ++ true ∷ x → IsNextOne bits from at
next_one_is bits from z at x p e =
    let l : length (drop from bits) ≡ z + suc (length x) = omega (arith, ap length e, length-append (replicate z false) (true ∷ x), length-replicate z false) in
    let n : z ≡ at - from = omega arith in
    let k : at + 1 ≡ from + (z + 1) = omega arith in
    let one : length (replicate z false ++ true ∷ []) ≡ z + 1 = omega (arith, length-append (replicate z false) (true ∷ []), length-replicate z false) in
    let rest : x ≡ drop (at + 1) bits =
    sym (ap (λ i. drop i bits) k ∙ (sym (drop-drop (z + 1) from bits) ∙ (ap (drop (z + 1)) (e ∙ sym (append_assoc (replicate z false) (true ∷ []) x)) ∙ drop_at (replicate z false ++ true ∷ []) x (z + 1) one))) in
    record {
      order = omega arith;
      inside = omega (arith, length-drop from bits);
      is = e ∙ (ap (λ i. replicate i false ++ true ∷ x) n ∙ ap (λ i. replicate (at - from) false ++ true ∷ i) rest);
    }

-- after zeros, the first one is in digits that are not all zero
pub one_in_digits : (bits : List Bool) (from k w x at : ℕ) (after : List Bool) → drop from bits ≡ replicate k false ++ (low_bits w x ++ after) → 0 < x → x < 2 ^ w → w ≤ 8 →
    at + 8 ≡ from + k + w + count_leading_zeros 8 x → IsNextOne bits from at
one_in_digits bits from k w x at after e h small order p =
    let t = leading_zeros 8 w x h small order in
    let i = w - suc t.0 in
    next_one_is bits from (k + i) at (low_bits t.0 x ++ after) (omega (arith, t.1, t.2))
    (e ∙ (ap (λ z. replicate k false ++ (z ++ after)) t.3 ∙ (ap (λ z. replicate k false ++ z) (append_assoc (replicate i false) (true ∷ low_bits t.0 x) after) ∙
    (sym (append_assoc (replicate k false) (replicate i false) (true ∷ (low_bits t.0 x ++ after))) ∙ ap (λ z. z ++ true ∷ (low_bits t.0 x ++ after)) (replicate-append-replicate k i false)))))

minus-zero : (p : ℕ) → p - 0 ≡ p
minus-zero p = omega arith

-- the first one behind zeros is that of what follows them
pub one_behind : (bits : List Bool) (from z : ℕ) (a : List Bool) (p at : ℕ) → drop from bits ≡ replicate z false ++ a → IsNextOne a 0 p → at ≡ from + z + p → IsNextOne bits from at
one_behind bits from z a p at e h q =
    next_one_is bits from (z + p) at (drop (p + 1) a) (omega arith)
    (e ∙ (ap (λ i. replicate z false ++ i) (h.is ∙ ap (λ i. replicate i false ++ true ∷ drop (p + 1) a) (minus-zero p)) ∙ (sym (append_assoc (replicate z false) (replicate p false) (true ∷ drop (p + 1) a)) ∙ ap (λ i. i ++ true ∷ drop (p + 1) a) (replicate-append-replicate z p false))))

-- what a mask leaves of a byte from a place on
pub masked : (x j : ℕ) → j < 8 → bit_and x (255 / 2 ^ j) ≡ x % 2 ^ (8 - j)
masked x j h = ap (bit_and x) (ones_shr 8 j (omega arith)) ∙ and_mask x (8 - j)

-- what a mask leaves of a number: its lowest digits
pub low_masked : (n count : ℕ) → 0 < count → count ≤ 8 → bit_and n (255 / 2 ^ (8 - count)) ≡ n % 2 ^ count
low_masked n count some h = let k : 8 - (8 - count) ≡ count = omega arith in masked n (8 - count) (omega arith) ∙ ap (λ z. n % 2 ^ z) k

module _ (bytes : List ℕ) (from : ℕ) (h : from < 8 * length bytes) where
  abbrev rest : ℕ
  rest = bit_and (get_or bytes (from / 8) 0) (255 / 2 ^ (from % 8))

  -- what is left of the byte, with the mask on it
  from_masked : drop from (bits_of bytes) ≡ low_bits (8 - from % 8) rest ++ bits_of (drop (from / 8 + 1) bytes)
  from_masked =
      let x = get_or bytes (from / 8) 0 in
      bits_from bytes from h ∙ ap (λ z. z ++ bits_of (drop (from / 8 + 1) bytes)) (sym (low_bits-mod (8 - from % 8) x) ∙ ap (low_bits (8 - from % 8)) (sym (masked x (from % 8) (omega arith))))

  rest_small : rest < 2 ^ (8 - from % 8)
  rest_small =
      let x = get_or bytes (from / 8) 0 in
      let p = pow_pos (8 - from % 8) in
      subst (λ z. z < 2 ^ (8 - from % 8)) (sym (masked x (from % 8) (omega arith))) (mod_below x (2 ^ (8 - from % 8)) p)

  pub one_in_byte : rest ≢ 0 → IsNextOne (bits_of bytes) from (8 * (from / 8) + count_leading_zeros 8 rest)
  one_in_byte some = one_in_digits (bits_of bytes) from 0 (8 - from % 8) rest (8 * (from / 8) + count_leading_zeros 8 rest) (bits_of (drop (from / 8 + 1) bytes)) from_masked (omega arith) rest_small (omega arith) (omega arith)

  -- where the rest of the byte is zero
  pub zeros_in_byte : rest ≡ 0 → drop from (bits_of bytes) ≡ replicate (8 - from % 8) false ++ bits_of (drop (from / 8 + 1) bytes)
  zeros_in_byte e = from_masked ∙ ap (λ z. z ++ bits_of (drop (from / 8 + 1) bytes)) (ap (low_bits (8 - from % 8)) e ∙ low_bits-zero (8 - from % 8))

  pub one_in_later_byte : (p : ℕ) → rest ≡ 0 → IsNextOne (bits_of (drop (from / 8 + 1) bytes)) 0 p → IsNextOne (bits_of bytes) from (8 * (from / 8 + 1) + p)
  one_in_later_byte p e i = one_behind (bits_of bytes) from (8 - from % 8) (bits_of (drop (from / 8 + 1) bytes)) p (8 * (from / 8 + 1) + p) (zeros_in_byte e) i (omega arith)

  pub zeros_to_the_end : rest ≡ 0 → bits_of (drop (from / 8 + 1) bytes) ≡ replicate (8 * length (drop (from / 8 + 1) bytes)) false → drop from (bits_of bytes) ≡ replicate (8 * length bytes - from) false
  zeros_to_the_end e z =
      let k : (8 - from % 8) + 8 * length (drop (from / 8 + 1) bytes) ≡ 8 * length bytes - from = omega (arith, length-drop (from / 8 + 1) bytes) in
      zeros_in_byte e ∙ (ap (λ i. replicate (8 - from % 8) false ++ i) z ∙ (replicate-append-replicate (8 - from % 8) (8 * length (drop (from / 8 + 1) bytes)) false ∙ ap (λ i. replicate i false) k))

-- the bytes before a place are zero, and the byte there is not
pub one_after_zeros : (bytes : List ℕ) (i : ℕ) → i < length bytes → bits_of (take i bytes) ≡ replicate (8 * i) false → get_or bytes i 0 ≢ 0 → get_or bytes i 0 < 256 → IsNextOne (bits_of bytes) 0 (8 * i + count_leading_zeros 8 (get_or bytes i 0))
one_after_zeros bytes i h z some small =
    one_in_digits (bits_of bytes) 0 (8 * i) 8 (get_or bytes i 0) (8 * i + count_leading_zeros 8 (get_or bytes i 0)) (bits_of (drop (i + 1) bytes))
    (bits_at bytes i h ∙ ap (λ y. y ++ (low_bits 8 (get_or bytes i 0) ++ bits_of (drop (i + 1) bytes))) z) (omega arith) small (omega arith) (omega arith)

-- one zero byte more
pub zeros_more : (bytes : List ℕ) (i : ℕ) → i < length bytes → bits_of (take i bytes) ≡ replicate (8 * i) false → get_or bytes i 0 ≡ 0 → bits_of (take (i + 1) bytes) ≡ replicate (8 * (i + 1)) false
zeros_more bytes i h z e =
    let k : 8 * i + 8 ≡ 8 * (i + 1) = omega arith in
    ap bits_of (take_more bytes i 0 h) ∙ (bits_of-append (take i bytes) (get_or bytes i 0 ∷ []) ∙ (ap (λ y. y ++ (low_bits 8 (get_or bytes i 0) ++ [])) z ∙ (ap (λ y. replicate (8 * i) false ++ y)
    (append-nil (low_bits 8 (get_or bytes i 0)) ∙ (ap (low_bits 8) e ∙ low_bits-zero 8)) ∙ (replicate-append-replicate (8 * i) 8 false ∙ ap (λ y. replicate y false) k))))

-- how many bits are left from a place on
pub length-left : (bytes : List ℕ) (from : ℕ) → length (drop from (bits_of bytes)) ≡ 8 * length bytes - from
length-left bytes from = omega (arith, length-drop from (bits_of bytes), length-bits_of bytes)

-- bits with a one are no padding
pub one_is_no_padding : (bits : List Bool) (from at : ℕ) → IsNextOne bits from at → IsPadding (drop from bits) → ⊥
one_is_no_padding bits from at i p = no_one (at - from) (length (drop from bits)) (drop (at + 1) bits) (sym i.is ∙ p.zeros)

-- fewer than eight zero bits are padding
pub zeros_are_padding : (bits : List Bool) (n : ℕ) → n < 8 → bits ≡ replicate n false → IsPadding bits
zeros_are_padding bits n few e =
    let l : n ≡ length bits = sym (ap length e ∙ length-replicate n false) in
    record { few = omega arith; zeros = e ∙ ap (λ z. replicate z false) l }
