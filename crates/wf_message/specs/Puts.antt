-- What a sink got of a text that was put in pieces.
use Rattle.std.specs.Prelude.{◌≡◌, ◌⊎◌, ◌≤◌, ℕ, Bool, List, take, Option, Result, MatchResult}
use Rattle.wf_io.specs.Told.{Rose, Appended}

-- a beginning of a text was put, and the count of faults rose
pub record IsPutInPart (text : List ℕ) (old new : Option (List ℕ)) (before after : ℕ) (at_last : Bool) : Type 0 where
  pub rose : Rose before after at_last
  pub later : before ≤ after
  pub begun : (k : ℕ) × Appended (take k text) old new

-- a text was put whole, and the count of faults is as it was; or it was put in part
abbrev pub IsPut : List ℕ → Option (List ℕ) → Option (List ℕ) → ℕ → ℕ → Bool → Type 0
IsPut text old new before after at_last = (Appended text old new × (after ≡ before)) ⊎ IsPutInPart text old new before after at_last

-- so at a result that tells which of the two it is, where a sink is seen by its bytes, its count and whether that stands at its last value
abbrev pub Puts : {S T E : Type 0} → (S → Option (List ℕ)) → (S → ℕ) → (S → Bool) → List ℕ → S → S → Result T E → Type 0
Puts bytes faults last text old new result =
    MatchResult result (λ _. Appended text (bytes old) (bytes new) × (faults new ≡ faults old))
    (λ _. IsPutInPart text (bytes old) (bytes new) (faults old) (faults new) (last new))
