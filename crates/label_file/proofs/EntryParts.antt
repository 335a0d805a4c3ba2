-- What is read at the front of bytes is the entry that stands there.
use Rattle.std.proofs.Common.{◌≡◌, ◌∙◌, ℕ, ◌+◌, ◌-◌, ◌*◌, ◌/◌, ◌%◌, ◌≤◌, List, ◌∷◌, ◌++◌, length, take, drop, refl, sym, ap, subst, arith}
use Rattle.std.proofs.Math.Seq.{take-append_seam}
use Rattle.std.proofs.lemmas.List.{drop_at}
use Rattle.bit_pack.specs.Written.{IsFilled}
use Rattle.label_model.specs.Files.{Entry, IsFront}
use Rattle.label_model.proofs.FileReadings.{entry_spread, one_front}
use Rattle.label_file.specs.Keys.{EntryAt, label_read, front_read, held_at, held_of, IsPlaced}

module _ (name label rest : List ℕ) where
  -- the bytes behind a name
  abbrev behind : List ℕ
  behind = length label / 256 ∷ (length label % 256 ∷ (label ++ rest))

  label_is : label_read behind ≡ label
  label_is =
      let size : length label / 256 * 256 + length label % 256 ≡ length label = omega arith in
      ap (λ n. take n (label ++ rest)) size ∙ take-append_seam label rest

  entry_is : front_read (length name ∷ (name ++ behind)) ≡ record { name = name; label = label }
  entry_is =
      let first : take (length name) (name ++ behind) ≡ name = take-append_seam name behind in
      let second : label_read (drop (length name) (name ++ behind)) ≡ label = ap label_read (drop_at name behind (length name) refl) ∙ label_is in
      λ i. record { name = first i; label = second i }

pub front_told : (e : Entry) (bytes rest : List ℕ) → IsFront e bytes rest → front_read bytes ≡ e
front_told e bytes rest f = ap front_read (f.is ∙ entry_spread e rest) ∙ entry_is e.name e.label rest

-- so a key holds the entry that stands at its place
pub held_told : (bytes : List ℕ) (k : EntryAt) (e : Entry) → IsPlaced bytes k.place k.padding e → held_at bytes k ≡ held_of e k.padding
held_told bytes k e p = ap (λ (z : Entry). held_of z k.padding) (front_told e (drop k.place bytes) p.rest p.front)

-- an entry that stands at a place, whose label fills its bytes with so many bits
pub placed_at : (bytes : List ℕ) (place padding : ℕ) (e : Entry) (rest : List ℕ) (bits : ℕ) → IsFront e (drop place bytes) rest → IsFilled e.label bits → 8 * length e.label - padding ≡ bits → padding ≤ 8 * length e.label → IsPlaced bytes place padding e
placed_at bytes place padding e rest bits front filled q l = record { rest = rest; front = front; padded = l; filled = subst (IsFilled e.label) (sym q) filled }

-- what is cut there is that entry
pub placed_same : (bytes : List ℕ) (place padding : ℕ) (e f : Entry) (rest : List ℕ) → IsPlaced bytes place padding e → IsFront f (drop place bytes) rest → IsPlaced bytes place padding f
placed_same bytes place padding e f rest p h = subst (IsPlaced bytes place padding) (one_front e f p.rest rest (sym p.front.is ∙ h.is)).0 p
