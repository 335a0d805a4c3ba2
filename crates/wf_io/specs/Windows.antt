-- What a window of a file holds after a piece was read.
use Rattle.std.specs.Prelude.{◌≡◌, ◌≤◌, ◌++◌, ℕ, true, false, List, length, take, drop, Result, MatchResult}
use Rattle.wf_io.specs.Told.{File}

-- n bytes of the file from that place stand behind what was held, and none only at the end of a whole file
pub record Grows (file : File) (at : ℕ) (old new : List ℕ) (n : ℕ) : Type 0 where
  pub bytes : new ≡ old ++ take n (drop at file.bytes)
  pub there : n ≤ length (drop at file.bytes)
  pub none : n ≡ 0 → (length file.bytes ≤ at) × (file.broken ≡ false)

-- what reading a piece of a told file makes: it grows, or the file breaks at that place
abbrev pub IsMore : {E : Type 0} → File → ℕ → List ℕ → List ℕ → Result ℕ E → Type 0
IsMore file at old new result = MatchResult result (λ n. Grows file at old new n) (λ _. (length file.bytes ≤ at) × (file.broken ≡ true))
