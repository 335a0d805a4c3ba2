-- The first bits of a list, in a word of 64.
use Rattle.std.proofs.Common.{◌≡◌, ℕ, zero, suc, ◌+◌, ◌-◌, ◌*◌, ◌/◌, ◌%◌, ◌^◌, ◌<◌, ◌≤◌, Bool, true, false, eqb, List, [], ◌∷◌, ◌++◌, length, get_or, take, drop, replicate, refl, sym, ap, ◌∙◌, subst, arith, append_assoc, length-append, append-nil}
use Rattle.std.proofs.Math.Nat.{pow-suc, le-div_iff_mul-le, div-lt_iff_lt-mul}
use Rattle.std.proofs.lemmas.List.{take_at, take_more, length-take-le, length-drop, length-replicate, take-append-drop}
use Rattle.std.proofs.lemmas.Nat.{pow-add, shl_below, shr_high, mod_low, leading_top}
use Rattle.std.specs.Int.Count.{count_leading_zeros, leading_of_zero}
use Rattle.bit_pack.specs.Bits.{number, low_bits, bits_of}
use Rattle.bit_pack.specs.Gamma.{gamma, Begins}
use Rattle.bit_pack.specs.Reading.{IsNextOne, IsWord}
use Rattle.bit_pack.proofs.Bytes.{next_one_is}
use Rattle.bit_pack.proofs.CodesRead.{code_begins, code_long}
use Rattle.bit_pack.proofs.LowBits.{number_of_low_bits, length-low_bits}
use Rattle.bit_pack.proofs.Numbers.{number_small, number-append, number-push, number-zeros, same_from_number}
use Rattle.bit_pack.proofs.Packing.{bits_of-append, length-bits_of}
use Rattle.bit_pack.proofs.Parts.{take-add, shifted, number_fits}

spread : (f q b p : ℕ) → (f * q + b) * p ≡ f * (q * p) + b * p
spread f q b p = omega arith

module _ (bits : List Bool) (held word : ℕ) (w : IsWord bits held word) (k : ℕ) (h : k ≤ held) where
  abbrev front : ℕ
  front = number (take k bits)

  abbrev behind : ℕ
  behind = number (take (held - k) (drop k bits))

  length_behind : length (take (held - k) (drop k bits)) ≡ held - k
  length_behind = length-take-le (held - k) (drop k bits) (omega (arith, length-drop k bits, w.inside))

  behind_small : behind < 2 ^ (held - k)
  behind_small = subst (λ z. behind < 2 ^ z) length_behind (number_small (take (held - k) (drop k bits)))

  -- the number of the bits that are held
  held_parts : number (take held bits) ≡ front * 2 ^ (held - k) + behind
  held_parts =
      let e : held ≡ k + (held - k) = omega arith in
      ap (λ z. number (take z bits)) e ∙ (ap number (take-add k (held - k) bits) ∙
      (number-append (take k bits) (take (held - k) (drop k bits)) ∙ ap (λ z. front * 2 ^ z + behind) length_behind))

  word_parts : (i j : ℕ) → i ≡ held - k → j ≡ 64 - held → word ≡ front * 2 ^ (i + j) + behind * 2 ^ j
  word_parts i j p q =
      w.is ∙ (ap (λ z. z * 2 ^ (64 - held)) held_parts ∙ (ap (λ z. (front * 2 ^ z + behind) * 2 ^ (64 - held)) (sym p) ∙ (ap (λ z. (front * 2 ^ i + behind) * 2 ^ z) (sym q) ∙
      (spread front (2 ^ i) behind (2 ^ j) ∙ ap (λ z. front * z + behind * 2 ^ j) (sym (pow-add 2 i j))))))

  low_small : (i j : ℕ) → i ≡ held - k → behind * 2 ^ j < 2 ^ (i + j)
  low_small i j p = shl_below behind i j (subst (λ z. behind < 2 ^ z) (sym p) behind_small)

  -- the word without its last bits is the number of the first
  pub front_number : word / 2 ^ (64 - k) ≡ number (take k bits)
  front_number =
      let i = held - k in
      let j = 64 - held in
      let e : 64 - k ≡ i + j = omega (arith, w.few) in
      ap (λ z. word / 2 ^ z) e ∙ (ap (λ z. z / 2 ^ (i + j)) (word_parts i j refl refl) ∙ shr_high front (i + j) (behind * 2 ^ j) (low_small i j refl))

  raised : (i j : ℕ) → (front * 2 ^ (i + j) + behind * 2 ^ j) * 2 ^ k ≡ front * 2 ^ (i + j + k) + behind * 2 ^ (j + k)
  raised i j =
      over front behind (2 ^ (i + j)) (2 ^ j) (2 ^ k) ∙
      (ap (λ z. front * z + behind * (2 ^ j * 2 ^ k)) (sym (pow-add 2 (i + j) k)) ∙ ap (λ z. front * 2 ^ (i + j + k) + behind * z) (sym (pow-add 2 j k)))
    where
      over : (f b p q r : ℕ) → (f * p + b * q) * r ≡ f * (p * r) + b * (q * r)
      over f b p q r = omega arith

  -- the word without its first bits
  shifted_is : word * 2 ^ k % 2 ^ 64 ≡ behind * 2 ^ (64 - (held - k))
  shifted_is =
      let i = held - k in
      let j = 64 - held in
      let whole : i + j + k ≡ 64 = omega (arith, w.few) in
      let left : j + k ≡ 64 - (held - k) = omega (arith, w.few) in
      let all : i + (64 - (held - k)) ≡ 64 = omega (arith, w.few) in
      let low : behind * 2 ^ (64 - (held - k)) < 2 ^ 64 = subst (λ z. behind * 2 ^ (64 - (held - k)) < 2 ^ z) all (shl_below behind i (64 - (held - k)) behind_small) in
      ap (λ z. z * 2 ^ k % 2 ^ 64) (word_parts i j refl refl) ∙ (ap (λ z. z % 2 ^ 64) (raised i j) ∙
      (ap (λ z. (front * 2 ^ z + behind * 2 ^ (j + k)) % 2 ^ 64) whole ∙ (ap (λ z. (front * 2 ^ 64 + behind * 2 ^ z) % 2 ^ 64) left ∙ mod_low front 64 (behind * 2 ^ (64 - (held - k))) low)))

  pub word_behind : IsWord (drop k bits) (held - k) (word * 2 ^ k % 2 ^ 64)
  word_behind = record { few = omega (arith, w.few); inside = omega (arith, length-drop k bits, w.inside); is = shifted_is }

-- the word of a number that some bits tell
pub word_of_number : (bits : List Bool) (held n : ℕ) → held ≤ 64 → held ≤ length bits → n ≡ number (take held bits) → IsWord bits held (n * 2 ^ (64 - held) % 2 ^ 64)
word_of_number bits held n few inside e =
    let l : length (take held bits) ≡ held = length-take-le held bits inside in
    record { few = few; inside = inside; is = ap (λ z. z * 2 ^ (64 - held) % 2 ^ 64) e ∙ shifted (take held bits) (64 - held) (omega (arith, l)) }

pub no_word : (bits : List Bool) → IsWord bits 0 0
no_word bits = record { few = omega arith; inside = omega arith; is = omega arith }

-- the first bits of bytes are those of the first bytes
pub first_bytes : (bytes : List ℕ) (m : ℕ) → m ≤ length bytes → bits_of (take m bytes) ≡ take (8 * m) (bits_of bytes)
first_bytes bytes m h =
    let l : length (bits_of (take m bytes)) ≡ 8 * m = omega (arith, length-bits_of (take m bytes), length-take-le m bytes h) in
    sym (ap (λ z. take (8 * m) (bits_of z)) (sym (take-append-drop m bytes)) ∙ (ap (take (8 * m)) (bits_of-append (take m bytes) (drop m bytes)) ∙ take_at (bits_of (take m bytes)) (bits_of (drop m bytes)) (8 * m) l))

-- one byte more
pub number_byte_more : (bytes : List ℕ) (i n : ℕ) → i < length bytes → get_or bytes i 0 < 256 → n ≡ number (bits_of (take i bytes)) → n * 256 + get_or bytes i 0 ≡ number (bits_of (take (i + 1) bytes))
number_byte_more bytes i n h small e =
    let x = get_or bytes i 0 in
    let digits : number (low_bits 8 x ++ []) ≡ x = ap number (append-nil (low_bits 8 x)) ∙ number_of_low_bits 8 x small in
    let l : length (low_bits 8 x ++ []) ≡ 8 = ap length (append-nil (low_bits 8 x)) ∙ length-low_bits 8 x in
    sym (ap (λ z. number (bits_of z)) (take_more bytes i 0 h) ∙ (ap number (bits_of-append (take i bytes) (x ∷ [])) ∙ (number-append (bits_of (take i bytes)) (low_bits 8 x ++ []) ∙
    (ap (λ z. number (bits_of (take i bytes)) * 2 ^ z + number (low_bits 8 x ++ [])) l ∙ (ap (λ z. number (bits_of (take i bytes)) * 256 + z) digits ∙ ap (λ z. z * 256 + x) (sym e))))))

pub number_byte_small : (bytes : List ℕ) (i : ℕ) → i < 8 → i ≤ length bytes → number (bits_of (take i bytes)) < 2 ^ 56
number_byte_small bytes i few h =
    let l : length (bits_of (take i bytes)) ≡ 8 * i = omega (arith, length-bits_of (take i bytes), length-take-le i bytes h) in
    number_fits (bits_of (take i bytes)) 56 (omega arith)

-- the first bit is the first digit of the word
pub first_bit_is : (bits : List Bool) (held word : ℕ) → IsWord bits held word → 0 < held → bits ≡ eqb (word / 2 ^ 63) 1 ∷ drop 1 bits
first_bit_is [] held word w h = absurd (omega (arith, w.inside))
first_bit_is (true ∷ bits) held word w h =
    let n : word / 2 ^ 63 ≡ 1 = front_number (true ∷ bits) held word w 1 h in
    ap (λ z. eqb z 1 ∷ bits) (sym n)
first_bit_is (false ∷ bits) held word w h =
    let n : word / 2 ^ 63 ≡ 0 = front_number (false ∷ bits) held word w 1 h in
    ap (λ z. eqb z 1 ∷ bits) (sym n)

some_digit : (word z : ℕ) → z ≡ count_leading_zeros 64 word → z < 64 → 0 < word
some_digit zero z e h = absurd (omega (arith, leading_of_zero 64))
some_digit (suc n) z e h = omega arith

top_digit : (n p q : ℕ) → q ≡ p * 2 → p ≤ n → n < q → n / p ≡ 1
top_digit n p q e l m =
    let some : 0 < p = omega arith in
    let low : 1 ≤ n / p = (le-div_iff_mul-le some).1 (omega arith) in
    let high : n / p < 2 = (div-lt_iff_lt-mul some).1 (omega arith) in
    omega arith

-- a code that is whole among the bits that are held: after z zeros come a one and z digits
module _ (bits : List Bool) (held word : ℕ) (w : IsWord bits held word) (z : ℕ) (is : z ≡ count_leading_zeros 64 word) (whole : 2 * z + 1 ≤ held) where
  word_small : word < 2 ^ 64
  word_small =
      let l : length (take held bits) ≡ held = length-take-le held bits w.inside in
      let e : held + (64 - held) ≡ 64 = omega (arith, w.few) in
      let s : number (take held bits) < 2 ^ held = subst (λ y. number (take held bits) < 2 ^ y) l (number_small (take held bits)) in
      subst (λ y. y < 2 ^ 64) (sym w.is) (subst (λ y. number (take held bits) * 2 ^ (64 - held) < 2 ^ y) e (shl_below (number (take held bits)) held (64 - held) s))

  first_digits : take (z + 1) bits ≡ replicate z false ++ true ∷ []
  first_digits =
      let t = leading_top 64 word (some_digit word z is (omega (arith, w.few))) word_small in
      let j = t.0 in
      let k : 64 - (z + 1) ≡ j = omega (arith, t.1) in
      let one : word / 2 ^ (64 - (z + 1)) ≡ 1 = ap (λ y. word / 2 ^ y) k ∙ top_digit word (2 ^ j) (2 ^ suc j) (pow-suc 2 j) t.2 t.3 in
      let told : number (take (z + 1) bits) ≡ 1 = sym (front_number bits held word w (z + 1) (omega arith)) ∙ one in
      let spelt : number (replicate z false ++ true ∷ []) ≡ 1 = omega (arith, number-push (replicate z false) true, number-zeros z) in
      same_from_number (take (z + 1) bits) (replicate z false ++ true ∷ [])
      (omega (arith, length-take-le (z + 1) bits (omega (arith, w.inside)), length-append (replicate z false) (true ∷ []), length-replicate z false)) (told ∙ sym spelt)

  zeros_first : bits ≡ replicate z false ++ true ∷ drop (z + 1) bits
  zeros_first = sym (take-append-drop (z + 1) bits) ∙ (ap (λ y. y ++ drop (z + 1) bits) first_digits ∙ append_assoc (replicate z false) (true ∷ []) (drop (z + 1) bits))

  next_one : IsNextOne bits 0 z
  next_one = next_one_is bits 0 z z (drop (z + 1) bits) (omega arith) zeros_first

  code_told : word / 2 ^ (64 - (2 * z + 1)) ≡ number (take (z - 0 + 1) (drop z bits))
  code_told =
      let e : 2 * z + 1 ≡ z + (z + 1) = omega arith in
      let d : z + 1 ≡ z - 0 + 1 = omega arith in
      let zeros : take z bits ≡ replicate z false = ap (take z) zeros_first ∙ take_at (replicate z false) (true ∷ drop (z + 1) bits) z (length-replicate z false) in
      let digits = take (z + 1) (drop z bits) in
      front_number bits held word w (2 * z + 1) whole ∙ (ap (λ y. number (take y bits)) e ∙ (ap number (take-add z (z + 1) bits) ∙ (number-append (take z bits) digits ∙
      (ap (λ y. number y * 2 ^ length digits + number digits) zeros ∙ (ap (λ y. y * 2 ^ length digits + number digits) (number-zeros z) ∙ (none (2 ^ length digits) (number digits) ∙ ap (λ y. number (take y (drop z bits))) d))))))
    where
      none : (p n : ℕ) → 0 * p + n ≡ n
      none p n = omega arith

  inside_bits : z + (z - 0) < length bits
  inside_bits = omega (arith, w.inside)

  pub held_code : Begins bits (word / 2 ^ (64 - (2 * z + 1))) (drop (2 * z + 1) bits)
  held_code =
      let e : z + (z - 0) + 1 ≡ 2 * z + 1 = omega arith in
      subst (λ y. Begins bits (word / 2 ^ (64 - (2 * z + 1))) (drop y bits)) e (code_begins bits 0 z next_one inside_bits (word / 2 ^ (64 - (2 * z + 1))) code_told)

  pub held_long : length (gamma (word / 2 ^ (64 - (2 * z + 1)))) ≡ 2 * z + 1
  held_long = omega (arith, code_long bits 0 z next_one inside_bits (word / 2 ^ (64 - (2 * z + 1))) code_told)
