-- The number that some bits tell, part by part.
use Rattle.std.proofs.Common.{◌≡◌, ℕ, ◌+◌, ◌-◌, ◌*◌, ◌/◌, ◌%◌, ◌^◌, ◌<◌, ◌≤◌, Bool, List, ◌++◌, length, get_or, take, drop, sym, ap, ◌∙◌, subst, arith}
use Rattle.std.proofs.Math.Nat.{pow-le-pow_right}
use Rattle.std.proofs.lemmas.List.{drop-drop, drop-take, take-take, take-append-drop, take-append-le, take_at, length-take-le, length-drop}
use Rattle.std.proofs.lemmas.Nat.{shl_whole}
use Rattle.std.specs.Prelude.{bit_and}
use Rattle.bit_pack.specs.Bits.{number, low_bits, bits_of}
use Rattle.bit_pack.proofs.Numbers.{number_small, number-append}
use Rattle.bit_pack.proofs.LowBits.{length-low_bits, number-low_bits, low_bits-add}
use Rattle.bit_pack.proofs.Bytes.{bits_from, low_masked}

-- some bits of one byte
part_is : (bytes : List ℕ) (from count : ℕ) → from % 8 + count ≤ 8 → from < 8 * length bytes → take count (drop from (bits_of bytes)) ≡ low_bits count (get_or bytes (from / 8) 0 / 2 ^ (8 - from % 8 - count))
part_is bytes from count h inside =
    let x = get_or bytes (from / 8) 0 in
    let left = 8 - from % 8 - count in
    let after = bits_of (drop (from / 8 + 1) bytes) in
    let k : 8 - from % 8 ≡ count + left = omega arith in
    let part = low_bits count (x / 2 ^ left) in
    ap (take count) (bits_from bytes from inside) ∙ (take-append-le count (low_bits (8 - from % 8) x) after (omega (arith, length-low_bits (8 - from % 8) x)) ∙
    (ap (λ w. take count (low_bits w x)) k ∙ (ap (take count) (low_bits-add count left x) ∙ take_at part (low_bits left x) count (length-low_bits count (x / 2 ^ left)))))

pub number_of_part : (bytes : List ℕ) (from count : ℕ) → 0 < count → from % 8 + count ≤ 8 → from < 8 * length bytes →
    bit_and (get_or bytes (from / 8) 0 / 2 ^ (8 - from % 8 - count)) (255 / 2 ^ (8 - count)) ≡ number (take count (drop from (bits_of bytes)))
number_of_part bytes from count some h inside =
    let y = get_or bytes (from / 8) 0 / 2 ^ (8 - from % 8 - count) in
    low_masked y count some (omega arith) ∙ (sym (number-low_bits count y) ∙ ap number (sym (part_is bytes from count h inside)))

-- some bits, and those behind them
pub take-add : {A : Type 0} (a b : ℕ) (xs : List A) → take (a + b) xs ≡ take a xs ++ take b (drop a xs)
take-add a b xs = sym (take-append-drop a (take (a + b) xs)) ∙ (ap (λ z. z ++ drop a (take (a + b) xs)) (take-take a (a + b) xs (omega arith)) ∙ ap (λ z. take a xs ++ z) (drop-take a b xs))

-- the number of some bits, with as many more as are taken
pub number_more : (bits : List Bool) (from at taken : ℕ) → from ≤ at → at + taken ≤ length bits → number (take (at + taken - from) (drop from bits)) ≡ number (take (at - from) (drop from bits)) * 2 ^ taken + number (take taken (drop at bits))
number_more bits from at taken order inside =
    let a = at - from in
    let k : at + taken - from ≡ a + taken = omega arith in
    let m : from + a ≡ at = omega arith in
    let front = take a (drop from bits) in
    let more = take taken (drop at bits) in
    let d : drop a (drop from bits) ≡ drop at bits = drop-drop a from bits ∙ ap (λ z. drop z bits) m in
    let l : length more ≡ taken = length-take-le taken (drop at bits) (omega (arith, length-drop at bits)) in
    ap (λ z. number (take z (drop from bits))) k ∙ (ap number (take-add a taken (drop from bits) ∙ ap (λ z. front ++ take taken z) d) ∙
    (number-append front more ∙ ap (λ z. number front * 2 ^ z + number more) l))

-- so few bits tell a number that is shifted with no digit lost
pub shifted : (bits : List Bool) (taken : ℕ) → length bits + taken ≤ 64 → number bits * 2 ^ taken % 2 ^ 64 ≡ number bits * 2 ^ taken
shifted bits taken h = shl_whole (number bits) (length bits) taken 64 (number_small bits) h

pub number_fits : (bits : List Bool) (w : ℕ) → length bits ≤ w → number bits < 2 ^ w
number_fits bits w h = below (number bits) (2 ^ length bits) (2 ^ w) (number_small bits) (pow-le-pow_right (omega arith) h)
  where
    below : (n a b : ℕ) → n < a → a ≤ b → n < b
    below n a b k l = omega arith

-- one part more of at most 64 bits
module _ (bits : List Bool) (from at taken n part : ℕ) (order : from ≤ at) (inside : at + taken ≤ length bits) (few : at + taken - from ≤ 64)
    (told : n ≡ number (take (at - from) (drop from bits))) (more : part ≡ number (take taken (drop at bits))) where
  pub part_added : n * 2 ^ taken % 2 ^ 64 + part ≡ number (take (at + taken - from) (drop from bits))
  part_added =
      let front = take (at - from) (drop from bits) in
      let l : length front ≡ at - from = length-take-le (at - from) (drop from bits) (omega (arith, length-drop from bits)) in
      ap (λ z. z * 2 ^ taken % 2 ^ 64 + part) told ∙ (ap (λ z. z + part) (shifted front taken (omega arith)) ∙
      (ap (λ z. number front * 2 ^ taken + z) more ∙ sym (number_more bits from at taken order inside)))

  pub part_fits : n * 2 ^ taken % 2 ^ 64 + part < 2 ^ 64
  part_fits =
      let whole = take (at + taken - from) (drop from bits) in
      let l : length whole ≡ at + taken - from = length-take-le (at + taken - from) (drop from bits) (omega (arith, length-drop from bits)) in
      subst (λ z. z < 2 ^ 64) (sym part_added) (number_fits whole 64 (omega arith))
