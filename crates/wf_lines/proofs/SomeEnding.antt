-- Lines come to an end, where each is taken or stops what takes them.
use Rattle.std.proofs.Common.{◌≡◌, ◌⊎◌, ℕ, Bool, true, false, List, [], ◌∷◌, ◌++◌, refl, inl, inr}
use Rattle.wf_io.specs.Lines.{Line, Tail, AtEnd, Broken, LongFile, is_too_long, text_of}
use Rattle.wf_lines.specs.LineStages.{LineEnds, OfLines}

module _ {S E : Type 0} (ends : LineEnds E) (Takes : S → ℕ → List ℕ → S → List ℕ → Type 0) (Stops : S → ℕ → List ℕ → E → List ℕ → Type 0) (Closes : S → E → List ℕ → Type 0) (IsSound : S → Type 0)
    (sound : (s : S) (n : ℕ) (x : List ℕ) (q : S) (p : List ℕ) → IsSound s → Takes s n x q p → IsSound q)
    (each : (s : S) (n : ℕ) (x : List ℕ) → IsSound s → ((q : S) × (p : List ℕ) × Takes s n x q p) ⊎ ((e : E) × (t : List ℕ) × Stops s n x e t))
    (closed : (s : S) → IsSound s → (e : E) × (t : List ℕ) × Closes s e t) where
  -- what lines make from a state on is something
  abbrev Makes : S → List Line → Tail → Type 0
  Makes s ls tail = (e : E) × (t : List ℕ) × OfLines ends Takes Stops Closes s ls tail e t

  -- from each sound state on lines make something, and come to an end
  pub some_ending : (tail : Tail) (ls : List Line) (s : S) → IsSound s → Makes s ls tail
  some_ending AtEnd [] s ok = closed s ok
  some_ending Broken [] s ok = (ends.broken, [], (refl, refl))
  some_ending (LongFile n) [] s ok = (ends.long_file n, [], (refl, refl))
  some_ending tail (l ∷ ls) s ok = by_length (λ q good. some_ending tail ls q good) (is_too_long l.raw) refl
    where
      by_text : ((q : S) → IsSound q → Makes q ls tail) → is_too_long l.raw ≡ false → ((q : S) × (p : List ℕ) × Takes s l.number (text_of l.raw) q p) ⊎ ((e : E) × (t : List ℕ) × Stops s l.number (text_of l.raw) e t) → Makes s (l ∷ ls) tail
      by_text rest short (inr h) = (h.0, h.1, inl (inr (short, h.2)))
      by_text rest short (inl h) = let r = rest h.0 (sound s _ _ h.0 h.1 ok h.2) in (r.0, h.1 ++ r.1, inr (h.0, h.1, r.1, (short, h.2), r.2, refl))

      by_length : ((q : S) → IsSound q → Makes q ls tail) → (t : Bool) → is_too_long l.raw ≡ t → Makes s (l ∷ ls) tail
      by_length rest true long = (ends.too_long l.number, [], inl (inl (long, refl, refl)))
      by_length rest false short = by_text rest short (each s l.number (text_of l.raw) ok)
