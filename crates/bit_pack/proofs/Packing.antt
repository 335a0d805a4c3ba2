-- Bits in bytes.
use Rattle.std.proofs.Common.{◌≡◌, ℕ, zero, suc, ◌+◌, ◌-◌, ◌*◌, ◌^◌, ◌<◌, ◌≤◌, Bool, true, false, cond, eqb, List, [], ◌∷◌, ◌++◌, length, take, replicate, refl, sym, ap, ◌∙◌, subst, arith, append_assoc, append-nil, length-append}
use Rattle.std.proofs.Math.Nat.{add-zero}
use Rattle.std.proofs.lemmas.Bool.{eqb-true, eqb-false}
use Rattle.std.proofs.lemmas.List.{length-replicate, replicate-append-replicate, take_at}
use Rattle.std.proofs.lemmas.List.Elements.{All-append, All-nil}
use Rattle.std.proofs.lemmas.List.Concat.{flat_map-append}
use Rattle.bit_pack.specs.Bits.{number, low_bits, bits_of, Holds, AreBytes, byte_of, packed_after, packed}
use Rattle.bit_pack.specs.Laws.{PackedLaw, HeldLaw}
use Rattle.bit_pack.proofs.Fronts.{same_front}
use Rattle.bit_pack.proofs.Numbers.{number_small, number-append, number-zeros}
use Rattle.bit_pack.proofs.LowBits.{length-low_bits, number_of_low_bits, low_bits-number}

pub length-bits_of : (a : List ℕ) → length (bits_of a) ≡ 8 * length a
length-bits_of [] = refl
length-bits_of (x ∷ a) = omega (arith, length-append (low_bits 8 x) (bits_of a), length-low_bits 8 x, length-bits_of a)

pub bits_of-append : (a b : List ℕ) → bits_of (a ++ b) ≡ bits_of a ++ bits_of b
bits_of-append a b = flat_map-append (low_bits 8) a b

-- zero bits at the end
pub number-zeros_after : (bits : List Bool) (j : ℕ) → number (bits ++ replicate j false) ≡ number bits * 2 ^ j
number-zeros_after bits j =
    number-append bits (replicate j false) ∙ (ap (λ z. number bits * 2 ^ z + number (replicate j false)) (length-replicate j false) ∙ (ap (λ z. number bits * 2 ^ j + z) (number-zeros j) ∙ add-zero (number bits * 2 ^ j)))

-- a byte that is begun has the bits begun, and then zero bits
low_bits-byte_of : (bits : List Bool) → length bits ≤ 8 → low_bits 8 (byte_of bits) ≡ bits ++ replicate (8 - length bits) false
low_bits-byte_of bits l =
    ap (low_bits 8) (sym (number-zeros_after bits (8 - length bits))) ∙
    low_bits-number (bits ++ replicate (8 - length bits) false) 8 (omega (arith, length-append bits (replicate (8 - length bits) false), length-replicate (8 - length bits) false))

byte_of_small : (bits : List Bool) → length bits ≤ 8 → byte_of bits < 256
byte_of_small bits l =
    let p = bits ++ replicate (8 - length bits) false in
    let n : length p ≡ 8 = omega (arith, length-append bits (replicate (8 - length bits) false), length-replicate (8 - length bits) false) in
    let h : number p < 2 ^ 8 = subst (λ z. number p < 2 ^ z) n (number_small p) in
    subst (λ z. z < 256) (number-zeros_after bits (8 - length bits)) h

one_byte : (x : ℕ) → x < 256 → AreBytes (x ∷ [])
one_byte x h zero d l = h
one_byte x h (suc k) d l = absurd (omega arith)

nothing_begun : (begun : List Bool) → length begun ≡ 0 → begun ≡ []
nothing_begun [] h = refl
nothing_begun (b ∷ begun) h = absurd (omega arith)

record IsPacked (begun bits : List Bool) (bytes : List ℕ) : Type 0 where
  holds : Holds bytes (begun ++ bits)
  small : AreBytes bytes

pack : (bits begun : List Bool) → length begun < 8 → IsPacked begun bits (packed_after begun bits)
pack [] begun l = go (eqb (length begun) 0) refl
  where
    go : (t : Bool) → eqb (length begun) 0 ≡ t → IsPacked begun [] (cond t [] (byte_of begun ∷ []))
    go true e = record {
      holds = record { padding = 0; few = omega arith; is = sym (append-nil (begun ++ []) ∙ (append-nil begun ∙ nothing_begun begun (eqb-true (length begun) 0 e))) };
      small = All-nil (λ b. b < 256);
    }
    go false e =
        let some_begun : length begun ≡ 0 → ⊥ = eqb-false (length begun) 0 e in
        record {
          holds = record {
            padding = 8 - length begun;
            few = omega arith;
            is = append-nil (low_bits 8 (byte_of begun)) ∙ (low_bits-byte_of begun (omega arith) ∙ ap (λ z. z ++ replicate (8 - length begun) false) (sym (append-nil begun)));
          };
          small = one_byte (byte_of begun) (byte_of_small begun (omega arith));
        }
pack (b ∷ bits) begun l = go (eqb (length begun) 7) refl (pack bits [] (omega arith)) (pack bits (begun ++ b ∷ []))
  where
    go : (t : Bool) → eqb (length begun) 7 ≡ t → IsPacked [] bits (packed_after [] bits) → (length (begun ++ b ∷ []) < 8 → IsPacked (begun ++ b ∷ []) bits (packed_after (begun ++ b ∷ []) bits)) →
        IsPacked begun (b ∷ bits) (cond t (byte_of (begun ++ b ∷ []) ∷ []) [] ++ packed_after (cond t [] (begun ++ b ∷ [])) bits)
    go true e full more =
        let whole = begun ++ b ∷ [] in
        let n : length whole ≡ 8 = omega (arith, length-append begun (b ∷ []), eqb-true (length begun) 7 e) in
        let first : low_bits 8 (byte_of whole) ≡ whole = low_bits-byte_of whole (omega arith) ∙ (ap (λ z. whole ++ replicate (8 - z) false) n ∙ append-nil whole) in
        record {
          holds = record {
            padding = full.holds.padding;
            few = full.holds.few;
            is =
                ap (λ z. z ++ bits_of (packed_after [] bits)) first ∙ (ap (λ z. whole ++ z) full.holds.is ∙
                (sym (append_assoc whole bits (replicate full.holds.padding false)) ∙ ap (λ z. z ++ replicate full.holds.padding false) (append_assoc begun (b ∷ []) bits)));
          };
          small = All-append (λ c. c < 256) (byte_of whole ∷ []) (packed_after [] bits) (one_byte (byte_of whole) (byte_of_small whole (omega arith))) full.small;
        }
    go false e full more =
        let not_seven : length begun ≡ 7 → ⊥ = eqb-false (length begun) 7 e in
        let r = more (omega (arith, length-append begun (b ∷ []))) in
        record {
          holds = record { padding = r.holds.padding; few = r.holds.few; is = r.holds.is ∙ ap (λ z. z ++ replicate r.holds.padding false) (append_assoc begun (b ∷ []) bits) };
          small = r.small;
        }

same_bytes : (a b : List ℕ) → AreBytes a → AreBytes b → bits_of a ≡ bits_of b → a ≡ b
same_bytes [] [] ha hb e = refl
same_bytes [] (y ∷ b) ha hb e = let h = ap length e in absurd (omega (arith, length-append (low_bits 8 y) (bits_of b), length-low_bits 8 y))
same_bytes (x ∷ a) [] ha hb e = let h = ap length e in absurd (omega (arith, length-append (low_bits 8 x) (bits_of a), length-low_bits 8 x))
same_bytes (x ∷ a) (y ∷ b) ha hb e =
    let r = same_front (low_bits 8 x) (low_bits 8 y) (bits_of a) (bits_of b) (length-low_bits 8 x ∙ sym (length-low_bits 8 y)) e in
    let h : x ≡ y = sym (number_of_low_bits 8 x (ha 0 0 (omega arith))) ∙ (ap number r.0 ∙ number_of_low_bits 8 y (hb 0 0 (omega arith))) in
    ap (λ z. z ∷ a) h ∙ ap (λ z. y ∷ z) (same_bytes a b (λ k d l. ha (suc k) d (omega arith)) (λ k d l. hb (suc k) d (omega arith)) r.1)

length_held : (bytes : List ℕ) (bits : List Bool) (h : Holds bytes bits) → 8 * length bytes ≡ length bits + h.padding
length_held bytes bits h = omega (arith, length-bits_of bytes, ap length h.is, length-append bits (replicate h.padding false), length-replicate h.padding false)

-- bytes that hold the same bits are the same
same_held : (a b : List ℕ) (bits : List Bool) → AreBytes a → AreBytes b → Holds a bits → Holds b bits → a ≡ b
same_held a b bits ha hb h k =
    let p : h.padding ≡ k.padding = omega (arith, h.few, k.few, length_held a bits h, length_held b bits k) in
    same_bytes a b ha hb (h.is ∙ (ap (λ z. bits ++ replicate z false) p ∙ sym k.is))

pub packed_law : PackedLaw
unfolding packed
packed_law bits =
    let r = pack bits [] (omega arith) in
    record {
      holds = r.holds;
      bytes = r.small;
      only = λ bytes small h. same_held bytes (packed_after [] bits) bits small r.small h r.holds;
    }

pub held_law : HeldLaw
held_law bytes a h = record {
  first = ap (take (length a)) h.is ∙ take_at a (replicate h.padding false) (length a) refl;
  more = λ b k l.
      let p = length b - length a in
      let la = length_held bytes a h in
      let lb = length_held bytes b k in
      let split : h.padding ≡ p + k.padding = omega arith in
      let e : (a ++ replicate p false) ++ replicate k.padding false ≡ b ++ replicate k.padding false =
      append_assoc a (replicate p false) (replicate k.padding false) ∙ (ap (λ z. a ++ z) (replicate-append-replicate p k.padding false ∙ ap (λ z. replicate z false) (sym split)) ∙ (sym h.is ∙ k.is)) in
      let r = same_front (a ++ replicate p false) b (replicate k.padding false) (replicate k.padding false) (omega (arith, length-append a (replicate p false), length-replicate p false)) e in
      (p, omega (arith, h.few), sym r.0);
}
