-- A line that is begun, and makes its text piece by piece.
use Rattle.std.specs.Prelude.{◌≡◌, ◌⊎◌, ℕ, List, [], ◌++◌}

-- a line that is begun: the state in which it was begun, its number, its text, and what it made so far
pub record BegunLine (S : Type 0) : Type 0 where
  pub state : S
  pub number : ℕ
  pub text : List ℕ
  pub made : List ℕ

-- the line of a number, which was begun in a state, has this text and made this first
abbrev pub begun_line : {S : Type 0} → S → ℕ → List ℕ → List ℕ → BegunLine S
begun_line s number text made = record { state = s; number = number; text = text; made = made }

-- it makes a piece more
abbrev pub further : {S : Type 0} → BegunLine S → List ℕ → BegunLine S
further p piece = begun_line p.state p.number p.text (p.made ++ piece)

-- a line that makes its text in one piece: nothing is made yet, or the line is taken, and this is all that it makes
abbrev pub MakesAtOnce : {S : Type 0} → (S → ℕ → List ℕ → S → List ℕ → Type 0) → BegunLine S → Type 0
MakesAtOnce Takes p = (p.made ≡ []) ⊎ ((q : _) × Takes p.state p.number p.text q p.made)

-- What a line made so far begins each text with which it is taken, and each with which it stops what takes it
pub record BeginsEach {S E : Type 0} (IsSound : S → Type 0) (Takes : S → ℕ → List ℕ → S → List ℕ → Type 0) (Stops : S → ℕ → List ℕ → E → List ℕ → Type 0) (Begins : BegunLine S → Type 0) : Type 0 where
  pub taken : (p : BegunLine S) (q : S) (t : List ℕ) → IsSound p.state → Begins p → Takes p.state p.number p.text q t → (more : List ℕ) × (t ≡ p.made ++ more)
  pub stopped : (p : BegunLine S) (e : E) (t : List ℕ) → IsSound p.state → Begins p → Stops p.state p.number p.text e t → (more : List ℕ) × (t ≡ p.made ++ more)
