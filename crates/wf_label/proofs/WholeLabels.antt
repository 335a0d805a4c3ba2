-- A label that was read up to its padding.
use Rattle.std.proofs.Common.{◌≡◌, ◌↔◌, ℕ, ◌+◌, ◌-◌, ◌*◌, ◌^◌, ◌<◌, Bool, false, List, [], ◌++◌, length, take, drop, replicate, Result, Ok, Err, refl, sym, ap, ◌∙◌, subst, arith, append_assoc, append-nil, length-append}
use Rattle.std.proofs.Math.Seq.{take-append_seam, drop-append_seam}
use Rattle.std.proofs.lemmas.List.{length-replicate}
use Rattle.std.specs.Result.{IfErr}
use Rattle.wf_model.specs.Grammar.{Grammar}
use Rattle.wf_model.specs.Linear.{IsLinear}
use Rattle.wf_model.specs.WellFormed.{IsWellFormed}
use Rattle.bit_pack.specs.Bits.{bits_of, AreBytes, Holds}
use Rattle.bit_pack.specs.Reading.{Reading, IsPadding}
use Rattle.bit_pack.specs.Written.{first_bits, IsWhole}
use Rattle.bit_pack.proofs.Packing.{length-bits_of}
use Rattle.label_model.specs.Labels.{label_bits}
use Rattle.label_model.specs.Reading.{IsPadding as IsPaddingLeft, IsLabelBytes, IsLabelLeft}
use Rattle.label_model.proofs.LabelBits.{prefix_free_law}
use Rattle.label_model.proofs.LabelRoom.{room_law}
use Rattle.label_model.proofs.ReadFromFront.{reading_law, left_label}
use Rattle.wf_label.specs.Parts.{IsPassed, at_front}
use Rattle.wf_label.specs.Values.{AreLabelBits}
use Rattle.wf_label.proofs.Passes.{passed_back}

-- bits of which a label is left with whatever padding are those of a label
label_read : (g : Grammar) (bits : List Bool) → ((left : List Bool) → IsLabelLeft g (bits ++ left) ↔ IsPaddingLeft left) → AreLabelBits g bits
label_read g bits same =
    let long = left_label g (bits ++ replicate 7 false) ((same (replicate 7 false)).1 (7, omega arith, refl)) in
    let short = left_label g (bits ++ []) ((same []).1 (0, omega arith, refl)) in
    let is : label_bits short.0 ++ (replicate short.1 false ++ replicate 7 false) ≡ label_bits long.0 ++ replicate long.1 false =
    sym (append_assoc (label_bits short.0) (replicate short.1 false) (replicate 7 false)) ∙ (ap (λ z. z ++ replicate 7 false) (sym short.4 ∙ append-nil bits) ∙ long.4) in
    let r = prefix_free_law g short.0 long.0 _ _ short.2 long.2 is in
    let none : short.1 ≡ 0 = omega (arith, ap length r.1, length-append (replicate short.1 false) (replicate 7 false), length-replicate short.1 false, length-replicate 7 false, length-replicate long.1 false, long.3) in
    (short.0, short.2, sym (append-nil bits) ∙ (short.4 ∙ (ap (λ z. label_bits short.0 ++ replicate z false) none ∙ append-nil (label_bits short.0))))

-- fewer than eight zero bits, in the words of both crates
padding_left : (bits : List Bool) → IsPadding bits → IsPaddingLeft bits
padding_left bits h = (length bits, h.few, h.zeros)

left_padding : (bits : List Bool) → IsPaddingLeft bits → IsPadding bits
left_padding bits h =
    let n = ap length h.2 ∙ length-replicate h.0 false in
    record { few = omega (arith, n, h.1); zeros = h.2 ∙ ap (λ z. replicate z false) (sym n) }

module _ (g : Grammar) (bytes : List ℕ) (r : Reading) (h : IsPassed (IsLabelLeft g) IsPaddingLeft (at_front bytes) r) where
  -- the place of the reader
  pub place_read : r.at + length r.left ≡ 8 * length bytes
  place_read = omega (arith, h.at, sym (length-bits_of bytes) ∙ (ap length h.is ∙ length-append h.bits r.left))

  front : first_bits bytes r.at ≡ h.bits
  front = ap (λ n. take n (bits_of bytes)) (h.at ∙ omega arith) ∙ (ap (take (length h.bits)) h.is ∙ take-append_seam h.bits r.left)

  pub bits_read : AreLabelBits g (first_bits bytes r.at)
  bits_read = subst (AreLabelBits g) (sym front) (label_read g h.bits h.same)

  -- then only padding follows
  pub whole_read : IsPadding r.left → AreBytes bytes → 8 * length bytes < 2 ^ 32 → IsWhole bytes r.at
  whole_read p are few =
      let rest : drop r.at (bits_of bytes) ≡ r.left = ap (λ n. drop n (bits_of bytes)) (h.at ∙ omega arith) ∙ (ap (drop (length h.bits)) h.is ∙ drop-append_seam h.bits r.left) in
      let n : length r.left ≡ 8 * length bytes - r.at = omega (arith, place_read) in
      record {
        filled = record {
          free = record { inside = omega (arith, place_read); zeros = rest ∙ (p.zeros ∙ ap (λ z. replicate z false) n) };
          few = omega (arith, place_read, p.few);
        };
        are_bytes = are;
        few = omega (arith, place_read);
      }

  pub bytes_read : IsPadding r.left → Holds bytes (first_bits bytes r.at)
  bytes_read p = subst (Holds bytes) (sym front) (record { padding = length r.left; few = p.few; is = h.is ∙ ap (λ z. h.bits ++ z) p.zeros })

  -- where something else follows, the bytes are no label
  pub more_left : ¬ IsPadding r.left → ¬ IsLabelBytes g bytes
  more_left none l = passed_back (IsLabelLeft g) IsPaddingLeft (at_front bytes) r h (λ p. none (left_padding r.left p)) ((reading_law.label g bytes).0 l)

-- bytes of which no label is left are none
pub nothing_read : (g : Grammar) (bytes : List ℕ) → ¬ IsLabelLeft g (bits_of bytes) → ¬ IsLabelBytes g bytes
nothing_read g bytes none l = none ((reading_law.label g bytes).0 l)

-- a label has at most 2^14 bytes
pub few_bytes : (g : Grammar) (bytes : List ℕ) → IsWellFormed g → IsLinear g → 16384 < length bytes → ¬ IsLabelBytes g bytes
few_bytes g bytes formed linear many l =
    let room = room_law g formed linear l.0 l.1 in
    omega (arith, room, l.2.few, sym (length-bits_of bytes) ∙ (ap length l.2.is ∙ length-append (label_bits l.0) (replicate l.2.padding false)), length-replicate l.2.padding false)

-- what holds holds at each error
pub at_error : {T E : Type 0} (P : Type 0) (r : Result T E) → P → IfErr r (λ _. P)
at_error P (Ok x) h = tt
at_error P (Err e) h = h
