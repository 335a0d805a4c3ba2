-- Bytes that are written from the front.
use Rattle.std.proofs.Common.{◌≡◌, ℕ, zero, suc, ◌+◌, ◌-◌, ◌*◌, ◌/◌, ◌%◌, ◌^◌, ◌<◌, ◌≤◌, Bool, false, List, [], ◌∷◌, ◌++◌, length, get_or, take, drop, set, replicate, refl, sym, ap, ◌∙◌, subst, arith, append_assoc, length-append}
use Rattle.std.proofs.lemmas.List.{drop-append-le, drop_at, nil_from_length, take_at, take_all, set_split, take-append-drop, take-append-le, length-take-le, length-replicate, replicate-append-replicate, take-replicate, drop-replicate}
use Rattle.std.proofs.lemmas.Nat.{shr_split, shr_below, shr-shr}
use Rattle.bit_pack.specs.Bits.{number, low_bits, bits_of, Holds, packed}
use Rattle.bit_pack.specs.Written.{first_bits, IsFree, IsFilled, HasRoom, Writes}
use Rattle.bit_pack.proofs.Numbers.{number_small, number-append, number-zeros}
use Rattle.bit_pack.proofs.LowBits.{length-low_bits, number-low_bits, number_of_low_bits, low_bits-number, low_bits-add, low_bits-mod, low_bits-zero}
use Rattle.bit_pack.proofs.Packing.{length-bits_of, bits_of-append, number-zeros_after, packed_law, held_law}
use Rattle.bit_pack.proofs.Bytes.{bits_before, bits_from}

pub length-first_bits : (bytes : List ℕ) (n : ℕ) → n ≤ 8 * length bytes → length (first_bits bytes n) ≡ n
length-first_bits bytes n h = length-take-le n (bits_of bytes) (omega (arith, length-bits_of bytes))

-- bits that stand behind the first ones, with zero bits to the end, are written
pub written : (old new : List ℕ) (n z : ℕ) (more : List Bool) → n ≤ 8 * length old → bits_of new ≡ first_bits old n ++ (more ++ replicate z false) → Writes old new n more
written old new n z more h e =
    let first = first_bits old n in
    let lf = length-first_bits old n h in
    let s : bits_of new ≡ (first ++ more) ++ replicate z false = e ∙ sym (append_assoc first more (replicate z false)) in
    let ll : length (first ++ more) ≡ n + length more = omega (arith, length-append first more) in
    let whole : 8 * length new ≡ n + length more + z = omega (arith, length-bits_of new, ap length s, length-append (first ++ more) (replicate z false), length-replicate z false) in
    let k : z ≡ 8 * length new - (n + length more) = omega arith in
    record {
      bits = ap (take (n + length more)) s ∙ take_at (first ++ more) (replicate z false) (n + length more) ll;
      free = record {
        inside = omega arith;
        zeros = ap (drop (n + length more)) s ∙ (drop_at (first ++ more) (replicate z false) (n + length more) ll ∙ ap (λ i. replicate i false) k);
      };
    }

-- what is written after what was written
pub writes_more : (a b c : List ℕ) (n : ℕ) (x y : List Bool) → Writes a b n x → Writes b c (n + length x) y → Writes a c n (x ++ y)
writes_more a b c n x y h k =
    let e : (n + length x) + length y ≡ n + length (x ++ y) = omega (arith, length-append x y) in
    record {
      bits = ap (first_bits c) (sym e) ∙ (k.bits ∙ (ap (λ z. z ++ y) h.bits ∙ append_assoc (first_bits a n) x y));
      free = subst (λ z. IsFree c z) e k.free;
    }

-- zero bits stand there already
pub zeros_written : (bytes : List ℕ) (n k : ℕ) → IsFree bytes n → n + k ≤ 8 * length bytes → Writes bytes bytes n (replicate k false)
zeros_written bytes n k free h =
    let z = 8 * length bytes - n - k in
    let e : 8 * length bytes - n ≡ k + z = omega arith in
    written bytes bytes n z (replicate k false) free.inside
    (sym (take-append-drop n (bits_of bytes)) ∙ ap (λ i. first_bits bytes n ++ i) (free.zeros ∙ (ap (λ i. replicate i false) e ∙ sym (replicate-append-replicate k z false))))

-- no digit is written
pub nothing_written : (bytes : List ℕ) (n w x : ℕ) → IsFree bytes n → w ≡ 0 → Writes bytes bytes n (low_bits w x)
nothing_written bytes n w x free e =
    let none : [] ≡ low_bits w x = sym (nil_from_length (low_bits w x) (length-low_bits w x ∙ e)) in
    subst (Writes bytes bytes n) none (zeros_written bytes n 0 free (omega (arith, free.inside)))

-- behind the digits that are written the bytes have zero bits
pub free_behind : (old new : List ℕ) (n w x at : ℕ) → Writes old new n (low_bits w x) → at ≡ n + w → IsFree new at
free_behind old new n w x at h e = subst (λ z. IsFree new z) (ap (λ z. n + z) (length-low_bits w x) ∙ sym e) h.free

-- the next digits of a number are written after those before them
pub digits_more : (a b c : List ℕ) (n w v part left x d at : ℕ) → Writes a b n (low_bits w (x / 2 ^ left)) → at ≡ n + w → Writes b c at (low_bits part d) →
    d ≡ x / 2 ^ (left - part) % 2 ^ part → part ≤ left → v ≡ w + part → Writes a c n (low_bits v (x / 2 ^ (left - part)))
digits_more a b c n w v part left x d at h e k f order q =
    let y = x / 2 ^ (left - part) in
    let i : left - part + part ≡ left = omega arith in
    let up : y / 2 ^ part ≡ x / 2 ^ left = shr-shr x (left - part) part ∙ ap (λ z. x / 2 ^ z) i in
    let digits : low_bits part d ≡ low_bits part y = ap (low_bits part) f ∙ low_bits-mod part y in
    let place : at ≡ n + length (low_bits w (x / 2 ^ left)) = e ∙ ap (λ z. n + z) (sym (length-low_bits w (x / 2 ^ left))) in
    let whole : low_bits w (x / 2 ^ left) ++ low_bits part d ≡ low_bits v y =
    ap (λ z. low_bits w (x / 2 ^ left) ++ z) digits ∙ (ap (λ z. low_bits w z ++ low_bits part y) (sym up) ∙ (sym (low_bits-add w part y) ∙ ap (λ z. low_bits z y) (sym q))) in
    subst (Writes a c n) whole (writes_more a b c n (low_bits w (x / 2 ^ left)) (low_bits part d) h (subst (λ z. Writes b c z (low_bits part d)) place k))

zero_bytes : (k : ℕ) → bits_of (replicate k 0) ≡ replicate (8 * k) false
zero_bytes zero = refl
zero_bytes (suc k) =
    let e : 8 + 8 * k ≡ 8 * suc k = omega arith in
    ap (λ z. z ++ bits_of (replicate k 0)) (low_bits-zero 8) ∙ (ap (λ z. replicate 8 false ++ z) (zero_bytes k) ∙ (replicate-append-replicate 8 (8 * k) false ∙ ap (λ z. replicate z false) e))

-- zero bytes at the end give room
pub room_made : (old new : List ℕ) (n count m : ℕ) → IsFilled old n → m ≡ (n + count + 7) / 8 → new ≡ take m old ++ replicate (m - length old) 0 → HasRoom old new n count
room_made old new n count m f e q =
    let k = m - length old in
    let kept : length old ≤ m = omega (arith, f.few) in
    let is : new ≡ old ++ replicate k 0 = q ∙ ap (λ z. z ++ replicate k 0) (take_all m old kept) in
    let long : length new ≡ m = omega (arith, ap length is, length-append old (replicate k 0), length-replicate {A = ℕ} k 0) in
    let bits : bits_of new ≡ bits_of old ++ replicate (8 * k) false = ap bits_of is ∙ (bits_of-append old (replicate k 0) ∙ ap (λ z. bits_of old ++ z) (zero_bytes k)) in
    let inside : n ≤ length (bits_of old) = omega (arith, length-bits_of old, f.free.inside) in
    let left : 8 * length old - n + 8 * k ≡ 8 * length new - n = omega (arith, long, f.free.inside) in
    record {
      same = ap (take n) bits ∙ take-append-le n (bits_of old) (replicate (8 * k) false) inside;
      free = record {
        inside = omega (arith, long, f.free.inside);
        zeros = ap (drop n) bits ∙ (drop-append-le n (bits_of old) (replicate (8 * k) false) inside ∙ (ap (λ z. z ++ replicate (8 * k) false) f.free.zeros ∙
            (replicate-append-replicate (8 * length old - n) (8 * k) false ∙ ap (λ z. replicate z false) left)));
      };
      enough = omega (arith, long);
      few = omega (arith, long);
    }

-- Digits go into one byte: its bits from a place on are zero, and the digits are added there
module _ (bytes : List ℕ) (at count part : ℕ) (free : IsFree bytes at) (one_byte : at % 8 + count ≤ 8) (inside : at < 8 * length bytes) (fits : part < 2 ^ count) (small : get_or bytes (at / 8) 0 < 256) where
  abbrev byte : ℕ
  byte = get_or bytes (at / 8) 0

  abbrev after : List Bool
  after = bits_of (drop (at / 8 + 1) bytes)

  -- the bits that the byte has before the place
  abbrev begun : List Bool
  begun = low_bits (at % 8) (byte / 2 ^ (8 - at % 8))

  abbrev raised : ℕ
  raised = byte + part * 2 ^ (8 - at % 8 - count)

  zeros_from : low_bits (8 - at % 8) byte ++ after ≡ replicate (8 * length bytes - at) false
  zeros_from = sym (bits_from bytes at inside) ∙ free.zeros

  byte_free : low_bits (8 - at % 8) byte ≡ replicate (8 - at % 8) false
  byte_free =
      sym (take_at (low_bits (8 - at % 8) byte) after (8 - at % 8) (length-low_bits (8 - at % 8) byte)) ∙
      (ap (take (8 - at % 8)) zeros_from ∙ take-replicate (8 - at % 8) (8 * length bytes - at) false (omega arith))

  after_free : after ≡ replicate (8 * length bytes - at - (8 - at % 8)) false
  after_free =
      sym (drop_at (low_bits (8 - at % 8) byte) after (8 - at % 8) (length-low_bits (8 - at % 8) byte)) ∙
      (ap (drop (8 - at % 8)) zeros_from ∙ drop-replicate (8 - at % 8) (8 * length bytes - at) false)

  first_is : first_bits bytes at ≡ bits_of (take (at / 8) bytes) ++ begun
  first_is = bits_before bytes at inside

  abbrev filled : List Bool
  filled = begun ++ (low_bits count part ++ replicate (8 - at % 8 - count) false)

  length-filled : length filled ≡ 8
  length-filled =
      let z = replicate (8 - at % 8 - count) false in
      omega (arith, length-append begun (low_bits count part ++ z), length-append (low_bits count part) z, length-replicate (8 - at % 8 - count) false, length-low_bits (at % 8) (byte / 2 ^ (8 - at % 8)), length-low_bits count part)

  number-filled : number filled ≡ raised
  number-filled =
      let z = 8 - at % 8 - count in
      let tail = low_bits count part ++ replicate z false in
      let lt : length tail ≡ 8 - at % 8 = omega (arith, length-append (low_bits count part) (replicate z false), length-low_bits count part, length-replicate z false) in
      let k : at % 8 + (8 - at % 8) ≡ 8 = omega arith in
      let high : byte / 2 ^ (8 - at % 8) < 2 ^ (at % 8) = shr_below byte (at % 8) (8 - at % 8) (subst (λ w. byte < 2 ^ w) (sym k) small) in
      let nb : number begun ≡ byte / 2 ^ (8 - at % 8) = number_of_low_bits (at % 8) (byte / 2 ^ (8 - at % 8)) high in
      let nt : number tail ≡ part * 2 ^ z = number-zeros_after (low_bits count part) z ∙ ap (λ i. i * 2 ^ z) (number_of_low_bits count part fits) in
      let low : byte % 2 ^ (8 - at % 8) ≡ 0 = sym (number-low_bits (8 - at % 8) byte) ∙ (ap number byte_free ∙ number-zeros (8 - at % 8)) in
      number-append begun tail ∙ (ap (λ i. number begun * 2 ^ i + number tail) lt ∙ sums (number begun) (byte / 2 ^ (8 - at % 8)) (2 ^ (8 - at % 8)) (byte % 2 ^ (8 - at % 8)) byte (number tail) (part * 2 ^ z) nb nt low (shr_split byte (8 - at % 8)))
    where
      sums : (a b p r x t u : ℕ) → a ≡ b → t ≡ u → r ≡ 0 → b * p + r ≡ x → a * p + t ≡ x + u
      sums a b p r x t u e f g h = ap (λ i. i * p + t) e ∙ omega arith

  pub raised_fits : raised < 256
  raised_fits =
      let s : number filled < 2 ^ 8 = subst (λ w. number filled < 2 ^ w) length-filled (number_small filled) in
      subst (λ i. i < 256) number-filled s

  pub part_written : Writes bytes (set bytes (at / 8) raised) at (low_bits count part)
  part_written =
      let q = at / 8 in
      let before = bits_of (take q bytes) in
      let z = 8 - at % 8 - count in
      let far = 8 * length bytes - at - (8 - at % 8) in
      let low = low_bits count part in
      let byte_is : low_bits 8 raised ≡ filled = ap (low_bits 8) (sym number-filled) ∙ low_bits-number filled 8 length-filled in
      let behind : replicate z false ++ after ≡ replicate (z + far) false = ap (λ i. replicate z false ++ i) after_free ∙ replicate-append-replicate z far false in
      let k : suc q ≡ q + 1 = omega arith in
      let inner : filled ++ after ≡ begun ++ (low ++ replicate (z + far) false) =
      append_assoc begun (low ++ replicate z false) after ∙ ap (λ i. begun ++ i) (append_assoc low (replicate z false) after ∙ ap (λ i. low ++ i) behind) in
      written bytes (set bytes q raised) at (z + far) low free.inside
      (ap bits_of (set_split bytes q raised (omega arith)) ∙ (bits_of-append (take q bytes) (raised ∷ drop (suc q) bytes) ∙
      (ap (λ i. before ++ (low_bits 8 raised ++ bits_of (drop i bytes))) k ∙ (ap (λ i. before ++ (i ++ after)) byte_is ∙ (ap (λ i. before ++ i) inner ∙
      (sym (append_assoc before begun (low ++ replicate (z + far) false)) ∙ ap (λ i. i ++ (low ++ replicate (z + far) false)) (sym first_is)))))))

-- where room was made, digits may follow zero bits
pub digits_place : (old room slice : List ℕ) (at zeros digits : ℕ) → HasRoom old room at (zeros + digits) → slice ≡ room → IsFree slice (at + zeros)
digits_place old room slice at zeros digits h e =
    let f : IsFree room (at + zeros) = subst (λ z. IsFree room (at + z)) (length-replicate zeros false) (zeros_written room at zeros h.free (omega (arith, h.enough))).free in
    subst (λ z. IsFree z (at + zeros)) (sym e) f

-- zero bits and then digits are written there
module _ (old room slice new : List ℕ) (at zeros digits number : ℕ) (h : HasRoom old room at (zeros + digits)) (e : slice ≡ room) (w : Writes slice new (at + zeros) (low_bits digits number)) (l : length new ≡ length slice) where
  all_written : Writes room new at (replicate zeros false ++ low_bits digits number)
  all_written =
      let place : at + zeros ≡ at + length (replicate zeros false) = ap (λ z. at + z) (sym (length-replicate zeros false)) in
      writes_more room room new at (replicate zeros false) (low_bits digits number) (zeros_written room at zeros h.free (omega (arith, h.enough)))
      (subst (λ z. Writes room new z (low_bits digits number)) place (subst (λ z. Writes z new (at + zeros) (low_bits digits number)) e w))

  long : at + length (replicate zeros false ++ low_bits digits number) ≡ at + (zeros + digits)
  long = omega (arith, length-append (replicate zeros false) (low_bits digits number), length-replicate zeros false, length-low_bits digits number)

  pub appended_bits : first_bits new (at + (zeros + digits)) ≡ first_bits old at ++ (replicate zeros false ++ low_bits digits number)
  appended_bits = ap (first_bits new) (sym long) ∙ (all_written.bits ∙ ap (λ z. z ++ (replicate zeros false ++ low_bits digits number)) h.same)

  pub appended_filled : IsFilled new (at + (zeros + digits))
  appended_filled = record { free = subst (IsFree new) long all_written.free; few = omega (arith, h.few, l, ap length e) }

-- bytes hold the bits that they are filled with
pub filled_holds : (bytes : List ℕ) (n : ℕ) → IsFilled bytes n → Holds bytes (first_bits bytes n)
filled_holds bytes n f = record {
  padding = 8 * length bytes - n;
  few = omega (arith, f.few, f.free.inside);
  is = sym (take-append-drop n (bits_of bytes)) ∙ ap (λ z. first_bits bytes n ++ z) f.free.zeros;
}

-- bytes that hold bits are filled with them
pub holds_filled : (bytes : List ℕ) (bits : List Bool) → Holds bytes bits → IsFilled bytes (length bits)
holds_filled bytes bits h =
    let whole : 8 * length bytes ≡ length bits + h.padding = omega (arith, length-bits_of bytes, ap length h.is, length-append bits (replicate h.padding false), length-replicate h.padding false) in
    let left : h.padding ≡ 8 * length bytes - length bits = omega arith in
    record {
      free = record {
        inside = omega arith;
        zeros = ap (drop (length bits)) h.is ∙ (drop_at bits (replicate h.padding false) (length bits) refl ∙ ap (λ z. replicate z false) left);
      };
      few = omega (arith, h.few);
    }

-- the bytes that bits fill are filled with them
pub packed_filled : (bits : List Bool) → IsFilled (packed bits) (length bits)
packed_filled bits = holds_filled (packed bits) bits (packed_law bits).holds

-- and these are the first bits of the bytes
pub first_packed : (bits : List Bool) → first_bits (packed bits) (length bits) ≡ bits
first_packed bits = (held_law (packed bits) bits (packed_law bits).holds).first
