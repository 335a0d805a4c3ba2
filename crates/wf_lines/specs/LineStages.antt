-- What the lines of a file make, one after the other: each stops the stage, or leaves a state and a text to those behind it.
use Rattle.std.specs.Prelude.{◌≡◌, ◌⊎◌, ℕ, true, false, List, [], ◌∷◌, ◌++◌}
use Rattle.wf_io.specs.Lines.{Line, Tail, AtEnd, Broken, LongFile, is_too_long, text_of}

-- the ends that lines come to whatever takes them: the line of a number is too long; the file goes on past the most bytes that are read of it, in the line of a number; the file is broken
pub record LineEnds (E : Type 0) : Type 0 where
  pub too_long : ℕ → E
  pub long_file : ℕ → E
  pub broken : E

module _ {S E : Type 0} (ends : LineEnds E) (Takes : S → ℕ → List ℕ → S → List ℕ → Type 0) (Stops : S → ℕ → List ℕ → E → List ℕ → Type 0) where
  -- a line is taken: its number and its text leave a state, and make a text
  abbrev pub TakesLine : S → Line → S → List ℕ → Type 0
  TakesLine s l q piece = (is_too_long l.raw ≡ false) × Takes s l.number (text_of l.raw) q piece

  -- a line stops the stage: it is too long, or its text stops it
  abbrev pub StopsLine : S → Line → E → List ℕ → Type 0
  StopsLine s l e text =
      ((is_too_long l.raw ≡ true) × (e ≡ ends.too_long l.number) × (text ≡ [])) ⊎
      ((is_too_long l.raw ≡ false) × Stops s l.number (text_of l.raw) e text)

  -- all of these lines are taken, and leave this state and make this text
  abbrev pub AllTaken : S → List Line → S → List ℕ → Type 0
  AllTaken s [] q text = (q ≡ s) × (text ≡ [])
  AllTaken s (l ∷ ls) q text = (r : S) × (piece : List ℕ) × (rest : List ℕ) × TakesLine s l r piece × AllTaken r ls q rest × (text ≡ piece ++ rest)

  module _ (Closes : S → E → List ℕ → Type 0) where
    -- what follows the last line: a whole file is closed; otherwise the file stops the stage
    abbrev pub OfTail : S → Tail → E → List ℕ → Type 0
    OfTail s AtEnd e text = Closes s e text
    OfTail s Broken e text = (e ≡ ends.broken) × (text ≡ [])
    OfTail s (LongFile n) e text = (e ≡ ends.long_file n) × (text ≡ [])

    -- What lines make of a state, and how they end: the first stops the stage, or leaves a state and a text to those behind it
    abbrev pub OfLines : S → List Line → Tail → E → List ℕ → Type 0
    OfLines s [] tail e text = OfTail s tail e text
    OfLines s (l ∷ ls) tail e text =
        StopsLine s l e text ⊎
        ((r : S) × (piece : List ℕ) × (rest : List ℕ) × TakesLine s l r piece × OfLines r ls tail e rest × (text ≡ piece ++ rest))

-- A line is taken in one way, where it is taken it does not stop the stage, and it stops it in one way; and so from each sound state to the next
pub record IsOneWay {S E : Type 0} (IsSound : S → Type 0) (Takes : S → ℕ → List ℕ → S → List ℕ → Type 0) (Stops : S → ℕ → List ℕ → E → List ℕ → Type 0) : Type 0 where
  pub sound : (s : S) (n : ℕ) (x : List ℕ) (q : S) (p : List ℕ) → IsSound s → Takes s n x q p → IsSound q
  pub taken : (s : S) (n : ℕ) (x : List ℕ) (q r : S) (p t : List ℕ) → IsSound s → Takes s n x q p → Takes s n x r t → (q ≡ r) × (p ≡ t)
  pub apart : (s : S) (n : ℕ) (x : List ℕ) (q : S) (p : List ℕ) (e : E) (t : List ℕ) → IsSound s → Takes s n x q p → Stops s n x e t → ⊥
  pub stopped : (s : S) (n : ℕ) (x : List ℕ) (d e : E) (t u : List ℕ) → IsSound s → Stops s n x d t → Stops s n x e u → (d ≡ e) × (t ≡ u)

-- so does the end of a whole file: it makes one text, or stops the stage in one way
pub record IsClosedOneWay {S E : Type 0} (IsSound : S → Type 0) (Finishes : S → List ℕ → Type 0) (StopsAtEnd : S → E → List ℕ → Type 0) : Type 0 where
  pub finished : (s : S) (p t : List ℕ) → IsSound s → Finishes s p → Finishes s t → p ≡ t
  pub apart : (s : S) (p : List ℕ) (e : E) (t : List ℕ) → IsSound s → Finishes s p → StopsAtEnd s e t → ⊥
  pub stopped : (s : S) (d e : E) (t u : List ℕ) → IsSound s → StopsAtEnd s d t → StopsAtEnd s e u → (d ≡ e) × (t ≡ u)

-- the end of a whole file stops the stage, or makes a text with which each further text begins
abbrev pub ClosesOrGoesOn : {S E : Type 0} → (S → List ℕ → Type 0) → (S → E → List ℕ → Type 0) → S → E → List ℕ → Type 0
ClosesOrGoesOn Finishes StopsAtEnd s e text = StopsAtEnd s e text ⊎ ((last : List ℕ) × (rest : List ℕ) × Finishes s last × (text ≡ last ++ rest))
