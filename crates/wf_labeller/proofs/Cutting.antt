-- Bytes that are cut into pieces.
use Rattle.std.proofs.Common.{◌≡◌, ℕ, zero, suc, ◌+◌, ◌-◌, ◌<◌, ◌≤◌, List, [], ◌∷◌, ◌++◌, length, take, drop, get_or, refl, ap, sym, ◌∙◌, subst, arith, length-append}
use Rattle.std.proofs.lemmas.List.{drop-append-le, take-append-le, take-take, length-drop, length-take-le, drop-take, take_all}
use Rattle.std.proofs.Math.Seq.{drop-append_seam}
use Rattle.wf_labeller.specs.Pieces.{pieces, AreEnds}

-- the places are within the bytes
pub from_within : (from : ℕ) (ends : List ℕ) (size : ℕ) → AreEnds from ends size → from ≤ size
from_within from [] size h = omega (arith, h)
from_within from (end ∷ ends) size h = omega (arith, h.0, from_within end ends size h.1)

-- a piece begins where the one before ends
pub bounds_at : (from : ℕ) (ends : List ℕ) (size i : ℕ) → AreEnds from ends size → i < length ends → (get_or (from ∷ ends) i 0 ≤ get_or ends i 0) × (get_or ends i 0 ≤ size)
bounds_at from [] size i h k = absurd (omega (arith, k))
bounds_at from (end ∷ ends) size zero h k = (h.0, from_within end ends size h.1)
bounds_at from (end ∷ ends) size (suc i) h k = bounds_at end ends size i h.1 (omega (arith, k))

pub begin_inside : (from : ℕ) (ends : List ℕ) (size i : ℕ) → AreEnds from ends size → i ≤ length ends → get_or (from ∷ ends) i 0 ≤ size
begin_inside from ends size zero h k = from_within from ends size h
begin_inside from [] size (suc i) h k = absurd (omega (arith, k))
begin_inside from (end ∷ ends) size (suc i) h k = begin_inside end ends size i h.1 (omega (arith, k))

pub piece_at : (bytes : List ℕ) (from : ℕ) (ends : List ℕ) (i : ℕ) → i < length ends → get_or (pieces bytes from ends) i [] ≡ take (get_or ends i 0 - get_or (from ∷ ends) i 0) (drop (get_or (from ∷ ends) i 0) bytes)
piece_at bytes from [] i k = absurd (omega (arith, k))
piece_at bytes from (end ∷ ends) zero k = refl
piece_at bytes from (end ∷ ends) (suc i) k = piece_at bytes end ends i (omega (arith, k))

-- there is a piece for each end
pub length-pieces : (bytes : List ℕ) (from : ℕ) (ends : List ℕ) → length (pieces bytes from ends) ≡ length ends
length-pieces bytes from [] = refl
length-pieces bytes from (end ∷ ends) = ap suc (length-pieces bytes end ends)

-- what lies between two places of bytes, with more behind them
same : (bytes more : List ℕ) (from end : ℕ) → from ≤ end → end ≤ length bytes → take (end - from) (drop from (bytes ++ more)) ≡ take (end - from) (drop from bytes)
same bytes more from end k h =
    ap (take (end - from)) (drop-append-le from bytes more (omega (arith, k, h))) ∙
    take-append-le (end - from) (drop from bytes) more (omega (arith, length-drop from bytes, h))

-- and in the first bytes alone
within : (bytes : List ℕ) (from end n : ℕ) → from ≤ end → end ≤ n → take (end - from) (drop from (take n bytes)) ≡ take (end - from) (drop from bytes)
within bytes from end n k h =
    let is : from + (n - from) ≡ n = omega (arith, k, h) in
    ap (take (end - from)) (ap (λ m. drop from (take m bytes)) (sym is) ∙ drop-take from (n - from) bytes) ∙
    take-take (end - from) (n - from) (drop from bytes) (omega (arith, k, h))

last : (bytes piece : List ℕ) → take (length bytes + length piece - length bytes) (drop (length bytes) (bytes ++ piece)) ≡ piece
last bytes piece =
    ap (take (length bytes + length piece - length bytes)) (drop-append_seam bytes piece) ∙
    take_all (length bytes + length piece - length bytes) piece (omega arith)

-- with a piece more the pieces are those that were there, and this one
pub piece_added : (bytes piece : List ℕ) (from : ℕ) (ends : List ℕ) (new : ℕ) → new ≡ length bytes + length piece → AreEnds from ends (length bytes) → pieces (bytes ++ piece) from (ends ++ new ∷ []) ≡ pieces bytes from ends ++ piece ∷ []
piece_added bytes piece from [] new is h = ap (λ (l : List ℕ). l ∷ []) (ap (λ n. take (n - from) (drop from (bytes ++ piece))) is ∙ (ap (λ n. take (length bytes + length piece - n) (drop n (bytes ++ piece))) h ∙ last bytes piece))
piece_added bytes piece from (end ∷ ends) new is h =
    ap (λ (l : List ℕ). l ∷ pieces (bytes ++ piece) end (ends ++ new ∷ [])) (same bytes piece from end h.0 (from_within end ends (length bytes) h.1)) ∙
    ap (λ l. take (end - from) (drop from bytes) ∷ l) (piece_added bytes piece end ends new is h.1)

pub ends_added : (from : ℕ) (ends : List ℕ) (size new : ℕ) → size ≤ new → AreEnds from ends size → AreEnds from (ends ++ new ∷ []) new
ends_added from [] size new more h = (omega (arith, more, h), refl)
ends_added from (end ∷ ends) size new more h = (h.0, ends_added end ends size new more h.1)

-- the first pieces, so many
pub ends_cut : (from : ℕ) (ends : List ℕ) (size i : ℕ) → AreEnds from ends size → i ≤ length ends → AreEnds from (take i ends) (get_or (from ∷ ends) i 0)
ends_cut from ends size zero h k = refl
ends_cut from [] size (suc i) h k = absurd (omega (arith, k))
ends_cut from (end ∷ ends) size (suc i) h k = (h.0, ends_cut end ends size i h.1 (omega (arith, k)))

pub pieces_cut : (bytes : List ℕ) (from : ℕ) (ends : List ℕ) (size i : ℕ) → AreEnds from ends size → i ≤ length ends → pieces (take (get_or (from ∷ ends) i 0) bytes) from (take i ends) ≡ take i (pieces bytes from ends)
pieces_cut bytes from ends size zero h k = refl
pieces_cut bytes from [] size (suc i) h k = absurd (omega (arith, k))
pieces_cut bytes from (end ∷ ends) size (suc i) h k =
    let n = get_or (end ∷ ends) i 0 in
    ap (λ (l : List ℕ). l ∷ pieces (take n bytes) end (take i ends)) (within bytes from end n h.0 (from_within end (take i ends) n (ends_cut end ends size i h.1 (omega (arith, k))))) ∙
    ap (λ l. take (end - from) (drop from bytes) ∷ l) (pieces_cut bytes end ends size i h.1 (omega (arith, k)))

-- bytes and ends with a piece more
module _ (bytes piece ends : List ℕ) (h : AreEnds 0 ends (length bytes)) (size : ℕ) (new_bytes new_ends : List ℕ) (is : size ≡ length new_bytes) (b : new_bytes ≡ bytes ++ piece) (e : new_ends ≡ ends ++ size ∷ []) where
  sized : size ≡ length bytes + length piece
  sized = is ∙ (ap (λ (l : List ℕ). length l) b ∙ length-append bytes piece)

  pub added_ends : AreEnds 0 new_ends (length new_bytes)
  added_ends = subst (λ l. AreEnds 0 l (length new_bytes)) (sym e) (subst (λ n. AreEnds 0 (ends ++ size ∷ []) n) is (ends_added 0 ends (length bytes) size (omega (arith, sized)) h))

  pub added_is : pieces new_bytes 0 new_ends ≡ pieces bytes 0 ends ++ piece ∷ []
  added_is = ap (λ l. pieces l 0 new_ends) b ∙ (ap (λ l. pieces (bytes ++ piece) 0 l) e ∙ piece_added bytes piece 0 ends size sized h)

-- bytes and ends of the first pieces
module _ (bytes ends : List ℕ) (i : ℕ) (h : AreEnds 0 ends (length bytes)) (k : i ≤ length ends) (size : ℕ) (new_bytes new_ends : List ℕ) (is : size ≡ get_or (0 ∷ ends) i 0) (e : new_ends ≡ take i ends) (b : new_bytes ≡ take size bytes) where
  cut_inside : size ≤ length bytes
  cut_inside = subst (λ n. n ≤ length bytes) (sym is) (begin_inside 0 ends (length bytes) i h k)

  pub cut_ends : AreEnds 0 new_ends (length new_bytes)
  cut_ends =
      subst (λ l. AreEnds 0 l (length new_bytes)) (sym e)
      (subst (λ n. AreEnds 0 (take i ends) n) (sym is ∙ sym (ap (λ (l : List ℕ). length l) b ∙ length-take-le size bytes cut_inside)) (ends_cut 0 ends (length bytes) i h k))

  pub cut_is : pieces new_bytes 0 new_ends ≡ take i (pieces bytes 0 ends)
  cut_is = ap (λ l. pieces l 0 new_ends) (b ∙ ap (λ n. take n bytes) is) ∙ (ap (λ l. pieces (take (get_or (0 ∷ ends) i 0) bytes) 0 l) e ∙ pieces_cut bytes 0 ends (length bytes) i h k)
