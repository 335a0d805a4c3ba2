-- At most 64 bits in a word, and the bytes of a word.
use Rattle.std.proofs.Common.{◌≡◌, ℕ, zero, suc, ◌+◌, ◌-◌, ◌*◌, ◌/◌, ◌%◌, ◌^◌, ◌<◌, ◌≤◌, Bool, false, cond, List, ◌++◌, length, take, replicate, refl, sym, ap, ◌∙◌, subst, ⊎_elim, arith, length-append}
use Rattle.std.proofs.Math.Nat.{pow-suc}
use Rattle.std.proofs.Math.Seq.{take-append-add}
use Rattle.std.proofs.lemmas.Bool.{le-leb, lt-leb, cases_lt}
use Rattle.std.proofs.lemmas.List.{take_all, take-replicate, length-take-le, length-replicate, take-append-drop}
use Rattle.std.proofs.lemmas.Nat.{pow-add, and_mask, shr_split, shr_below, shl_below, shl_whole}
use Rattle.std.proofs.lemmas.Nat.Bits.{ones_shr}
use Rattle.std.specs.Int.{byte_at, bytes_high_first}
use Rattle.std.specs.Prelude.{bit_and}
use Rattle.bit_pack.specs.Bits.{number, low_bits, bits_of, Holds}
use Rattle.bit_pack.specs.Reading.{IsWord, IsWordOf}
use Rattle.bit_pack.specs.Written.{first_bits, held_bytes, IsFilled, IsWritten, IsHeldBy}
use Rattle.bit_pack.proofs.Numbers.{number-append}
use Rattle.bit_pack.proofs.LowBits.{length-low_bits, number_of_low_bits, low_bits-number, low_bits-add, low_bits-mod}
use Rattle.bit_pack.proofs.Packing.{length-bits_of, number-zeros_after, held_law}
use Rattle.bit_pack.proofs.Filling.{length-first_bits, holds_filled}
use Rattle.bit_pack.proofs.Words.{front_number, first_bytes}

byte_pow : (k : ℕ) → 256 ^ k ≡ 2 ^ (8 * k)
byte_pow zero = refl
byte_pow (suc k) =
    let e : 8 * suc k ≡ 8 * k + 8 = omega arith in
    pow-suc 256 k ∙ (ap (λ z. z * 256) (byte_pow k) ∙ sym (ap (λ z. 2 ^ z) e ∙ pow-add 2 (8 * k) 8))

byte_bits : (k n : ℕ) → low_bits 8 (byte_at k n) ≡ low_bits 8 (n / 2 ^ (8 * k))
byte_bits zero n = let e : n / 2 ^ (8 * 0) ≡ n = omega arith in low_bits-mod 8 n ∙ ap (low_bits 8) (sym e)
byte_bits (suc k) n = low_bits-mod 8 (n / 256 ^ suc k) ∙ ap (λ z. low_bits 8 (n / z)) (byte_pow (suc k))

-- the bytes of a number, the highest first, have its lowest digits
bytes_bits : (k n : ℕ) → bits_of (bytes_high_first k n) ≡ low_bits (8 * k) n
unfolding low_bits
bytes_bits zero n = refl
bytes_bits (suc k) n =
    let e : 8 * suc k ≡ 8 + 8 * k = omega arith in
    ap (λ z. z ++ bits_of (bytes_high_first k n)) (byte_bits k n) ∙ (ap (λ z. low_bits 8 (n / 2 ^ (8 * k)) ++ z) (bytes_bits k n) ∙ sym (ap (λ w. low_bits w n) e ∙ low_bits-add 8 (8 * k) n))

-- the word of bits, by their number
pub is_word_of : (bits : List Bool) (word : ℕ) → length bits ≤ 64 → word ≡ number bits * 2 ^ (64 - length bits) → IsWordOf bits word
is_word_of bits word few e = record {
  few = few;
  inside = omega arith;
  is = e ∙ ap (λ z. number z * 2 ^ (64 - length bits)) (sym (take_all (length bits) bits (omega arith)));
}

word_number : (bits : List Bool) (word : ℕ) → IsWordOf bits word → word ≡ number bits * 2 ^ (64 - length bits)
word_number bits word w = w.is ∙ ap (λ z. number z * 2 ^ (64 - length bits)) (take_all (length bits) bits (omega arith))

-- the digits of the word are the bits, and then zero bits
word_bits : (bits : List Bool) (word : ℕ) → IsWordOf bits word → low_bits 64 word ≡ bits ++ replicate (64 - length bits) false
word_bits bits word w =
    let z = 64 - length bits in
    ap (low_bits 64) (word_number bits word w ∙ sym (number-zeros_after bits z)) ∙
    low_bits-number (bits ++ replicate z false) 64 (omega (arith, length-append bits (replicate z false), length-replicate z false, w.few))

-- as many of its bytes as the bits fill hold them
pub word_held : (bits : List Bool) (word count : ℕ) (bytes : List ℕ) → IsWordOf bits word → length bits ≡ count → bytes ≡ take ((count + 7) / 8) (bytes_high_first 8 word) → Holds bytes bits
word_held bits word count bytes w l e =
    let m = (count + 7) / 8 in
    let few = w.few in
    let n = length bits in
    let p = 8 * m - n in
    let z = 64 - n in
    let k : 8 * m ≡ n + p = omega arith in
    let zeros : take p (replicate z false) ≡ replicate p false = take-replicate p z false (omega arith) in
    record {
      padding = p;
      few = omega arith;
      is =
          ap bits_of e ∙ (first_bytes (bytes_high_first 8 word) m (omega arith) ∙ (ap (take (8 * m)) (bytes_bits 8 word ∙ word_bits bits word w) ∙
          (ap (λ i. take i (bits ++ replicate z false)) k ∙ (take-append-add bits (replicate z false) p ∙ ap (λ i. bits ++ i) zeros))));
    }

-- a word without its last digits
pub first_digits_kept : (word count : ℕ) → count < 64 → word - bit_and word (18446744073709551615 / 2 ^ count) ≡ word / 2 ^ (64 - count) * 2 ^ (64 - count)
first_digits_kept word count h =
    let m : bit_and word (18446744073709551615 / 2 ^ count) ≡ word % 2 ^ (64 - count) = ap (bit_and word) (ones_shr 64 count (omega arith)) ∙ and_mask word (64 - count) in
    let s = shr_split word (64 - count) in
    omega (arith, m, s)

-- digits behind the first bits of a word
module _ (word begun digits count : ℕ) (some : 0 < count) (short : begun + count ≤ 64) (fits : digits < 2 ^ count) where
  abbrev left : ℕ
  left = 64 - begun - count

  behind : 64 - begun ≡ count + left
  behind = omega arith

  pub digits_whole : digits * 2 ^ left % 2 ^ 64 ≡ digits * 2 ^ left
  digits_whole = shl_whole digits count left 64 fits (omega arith)

  digits_small : digits * 2 ^ left < 2 ^ (64 - begun)
  digits_small = subst (λ z. digits * 2 ^ left < 2 ^ z) (sym behind) (shl_below digits count left fits)

  pub digits_fit : word < 2 ^ 64 → word / 2 ^ (64 - begun) * 2 ^ (64 - begun) + digits * 2 ^ left % 2 ^ 64 < 2 ^ 64
  digits_fit h =
      let k : begun + (64 - begun) ≡ 64 = omega arith in
      let q : word / 2 ^ (64 - begun) < 2 ^ begun = shr_below word begun (64 - begun) (subst (λ z. word < 2 ^ z) (sym k) h) in
      let whole : 2 ^ begun * 2 ^ (64 - begun) ≡ 2 ^ 64 = sym (pow-add 2 begun (64 - begun)) ∙ ap (λ z. 2 ^ z) k in
      subst (λ z. word / 2 ^ (64 - begun) * 2 ^ (64 - begun) + z < 2 ^ 64) (sym digits_whole)
      (room (word / 2 ^ (64 - begun)) (2 ^ begun) (2 ^ (64 - begun)) (digits * 2 ^ left) (2 ^ 64) q digits_small whole)
    where
      room : (a b p d w : ℕ) → a < b → d < p → b * p ≡ w → a * p + d < w
      room a b p d w h k e =
          let s : suc a * p ≤ b * p = grind arith in
          omega arith

  -- they stand behind those bits in the word
  pub word_more : (bits : List Bool) → IsWordOf bits word → begun ≤ length bits → IsWordOf (take begun bits ++ low_bits count digits) (word / 2 ^ (64 - begun) * 2 ^ (64 - begun) + digits * 2 ^ left % 2 ^ 64)
  word_more bits w order =
      let front = take begun bits in
      let more = low_bits count digits in
      let lf : length front ≡ begun = length-take-le begun bits order in
      let lm : length more ≡ count = length-low_bits count digits in
      let l : length (front ++ more) ≡ begun + count = omega (arith, length-append front more) in
      let k : 64 - length (front ++ more) ≡ left = omega arith in
      let told : number (front ++ more) ≡ number front * 2 ^ count + digits =
      number-append front more ∙ (ap (λ z. number front * 2 ^ z + number more) lm ∙ ap (λ z. number front * 2 ^ count + z) (number_of_low_bits count digits fits)) in
      let high : word / 2 ^ (64 - begun) * 2 ^ (64 - begun) ≡ number front * (2 ^ count * 2 ^ left) =
      ap (λ z. z * 2 ^ (64 - begun)) (front_number bits (length bits) word w begun order) ∙ ap (λ z. number front * z) (ap (λ z. 2 ^ z) behind ∙ pow-add 2 count left) in
      is_word_of (front ++ more) _ (omega arith)
      (ap (λ z. z + digits * 2 ^ left % 2 ^ 64) high ∙ (ap (λ z. number front * (2 ^ count * 2 ^ left) + z) digits_whole ∙
      (spread (number front) (2 ^ count) digits (2 ^ left) ∙ sym (ap (λ z. z * 2 ^ (64 - length (front ++ more))) told ∙ ap (λ z. (number front * 2 ^ count + digits) * 2 ^ z) k))))
    where
      spread : (f c d p : ℕ) → f * (c * p) + d * p ≡ (f * c + d) * p
      spread f c d p = omega arith

-- the word of the bits that bytes begin with, where these are filled with so many
pub word_filled : (bytes : List ℕ) (count held word : ℕ) → IsFilled bytes count → count ≤ held → held ≤ 8 * length bytes → IsWord (bits_of bytes) held word → IsWordOf (first_bits bytes count) word
word_filled bytes count held word f order inside w =
    let bits = first_bits bytes count in
    let z = held - count in
    let rest = 8 * length bytes - count in
    let few = w.few in
    let l : length bits ≡ count = length-take-le count (bits_of bytes) (omega (arith, length-bits_of bytes, f.free.inside)) in
    let whole : bits_of bytes ≡ bits ++ replicate rest false = sym (take-append-drop count (bits_of bytes)) ∙ ap (λ i. bits ++ i) f.free.zeros in
    let k : held ≡ length bits + z = omega arith in
    let first : take held (bits_of bytes) ≡ bits ++ replicate z false =
    ap (take held) whole ∙ (ap (λ i. take i (bits ++ replicate rest false)) k ∙ (take-append-add bits (replicate rest false) z ∙ ap (λ i. bits ++ i) (take-replicate z rest false (omega arith)))) in
    let j : z + (64 - held) ≡ 64 - length bits = omega arith in
    is_word_of bits word (omega arith)
    (w.is ∙ (ap (λ i. number i * 2 ^ (64 - held)) first ∙ (ap (λ i. i * 2 ^ (64 - held)) (number-zeros_after bits z) ∙
    (over (number bits) (2 ^ z) (2 ^ (64 - held)) ∙ ap (λ i. number bits * i) (sym (pow-add 2 z (64 - held)) ∙ ap (λ i. 2 ^ i) j)))))
  where
    over : (n p q : ℕ) → n * p * q ≡ n * (p * q)
    over n p q = omega arith

-- bytes that hold bits are filled with them, and begin with them
pub held_first : (bytes : List ℕ) (bits : List Bool) (count : ℕ) → length bits ≡ count → Holds bytes bits → (first_bits bytes count ≡ bits) × IsFilled bytes count
held_first bytes bits count l h = (ap (λ z. take z (bits_of bytes)) (sym l) ∙ (held_law bytes bits h).first, subst (IsFilled bytes) l (holds_filled bytes bits h))

-- at most 64 bits fill the first of eight bytes
pub held_short : (eight bytes : List ℕ) (n : ℕ) → n ≤ 64 → held_bytes eight bytes n ≡ take ((n + 7) / 8) eight
held_short eight bytes n h = ap (λ t. cond t (take ((n + 7) / 8) eight) bytes) (le-leb n 64 h)

-- more than 64 bits fill the other bytes
pub held_long : (eight bytes : List ℕ) (n : ℕ) → 64 < n → held_bytes eight bytes n ≡ bytes
held_long eight bytes n h = ap (λ t. cond t (take ((n + 7) / 8) eight) bytes) (lt-leb n 64 h)

-- the eight bytes of a word of bits hold them
pub eight_hold : (eight bytes : List ℕ) (bits : List Bool) (count word : ℕ) → IsWordOf bits word → length bits ≡ count → eight ≡ bytes_high_first 8 word →
    (first_bits (held_bytes eight bytes count) count ≡ bits) × IsHeldBy eight bytes count word
eight_hold eight bytes bits count word w l e =
    let few : count ≤ 64 = omega (arith, w.few) in
    let r = held_first (held_bytes eight bytes count) bits count l (word_held bits word count (held_bytes eight bytes count) w l (held_short eight bytes count few ∙ ap (take ((count + 7) / 8)) e)) in
    (r.0, record { written = record { filled = r.1; held = λ h. subst (λ z. IsWordOf z word) (sym r.0) w }; same = e })

-- so do other bytes, where the bits that fill them are more than 64
pub long_hold : (eight bytes : List ℕ) (count word : ℕ) → 64 < count → IsFilled bytes count → eight ≡ bytes_high_first 8 word →
    (first_bits (held_bytes eight bytes count) count ≡ first_bits bytes count) × IsHeldBy eight bytes count word
long_hold eight bytes count word many f e =
    let is = held_long eight bytes count many in
    (ap (λ z. first_bits z count) is, record { written = record { filled = subst (λ z. IsFilled z count) (sym is) f; held = λ h. absurd (omega arith) }; same = e })

-- the bits that fill bytes are held, by their word or by the same bytes
pub filled_hold : (from eight bytes : List ℕ) (count word : ℕ) → IsFilled from count → (count ≤ 64 → IsWordOf (first_bits from count) word) → (64 < count → bytes ≡ from) → eight ≡ bytes_high_first 8 word →
    (first_bits (held_bytes eight bytes count) count ≡ first_bits from count) × IsHeldBy eight bytes count word
filled_hold from eight bytes count word f w b e =
    ⊎_elim
    (λ (many : 64 < count).
    let r = long_hold eight bytes count word many (subst (λ z. IsFilled z count) (sym (b many)) f) e in
    (r.0 ∙ ap (λ z. first_bits z count) (b many), r.1))
    (λ few. eight_hold eight bytes (first_bits from count) count word (w few) (length-first_bits from count f.free.inside) e)
    (cases_lt 64 count)

-- digits are written behind the first of at most 64 bits
pub digits_hold : (old eight bytes : List ℕ) (end word begun digits count more : ℕ) → IsWritten old end word → end ≤ 64 → begun ≤ end →
    ((bits : List Bool) → IsWordOf bits word → begun ≤ length bits → IsWordOf (take begun bits ++ low_bits count digits) more) → eight ≡ bytes_high_first 8 more →
    (first_bits (held_bytes eight bytes (begun + count)) (begun + count) ≡ take begun (first_bits old end) ++ low_bits count digits) × IsHeldBy eight bytes (begun + count) more
digits_hold old eight bytes end word begun digits count more h short order m e =
    let bits = first_bits old end in
    let after = take begun bits ++ low_bits count digits in
    let l : length bits ≡ end = length-first_bits old end h.filled.free.inside in
    let la : length after ≡ begun + count = omega (arith, length-append (take begun bits) (low_bits count digits), length-take-le begun bits (omega arith), length-low_bits count digits) in
    eight_hold eight bytes after (begun + count) more (m bits (h.held short) (omega arith)) la e

-- bits are cut off behind the first of at most 64
pub cut_hold : (old eight bytes : List ℕ) (end word count less : ℕ) → IsWritten old end word → end ≤ 64 → count ≤ end → less ≡ word / 2 ^ (64 - count) * 2 ^ (64 - count) → eight ≡ bytes_high_first 8 less →
    (first_bits (held_bytes eight bytes count) count ≡ take count (first_bits old end)) × IsHeldBy eight bytes count less
cut_hold old eight bytes end word count less h short order e is =
    let bits = first_bits old end in
    let front = take count bits in
    let l : length bits ≡ end = length-first_bits old end h.filled.free.inside in
    let lf : length front ≡ count = length-take-le count bits (omega arith) in
    let k : 64 - count ≡ 64 - length front = omega arith in
    let told : less ≡ number front * 2 ^ (64 - length front) = e ∙ (ap (λ z. z * 2 ^ (64 - count)) (front_number bits (length bits) word (h.held short) count (omega arith)) ∙ ap (λ z. number front * 2 ^ z) k) in
    eight_hold eight bytes front count less (is_word_of front less (omega arith) told) lf is
