-- Ports of positions, given how many each position has, and the ends of links at them.
use Rattle.std.specs.Prelude.{◌≡◌, ℕ, ◌<◌, ◌≤◌, ◌+◌, ◌*◌, ◌==◌, Bool, false, cond, List, length, get_or, count_by}
use Rattle.wf_model.specs.Lists.{IsIn}
use Rattle.wf_model.specs.Grammar.{Inner}
use Rattle.wf_model.specs.WellFormed.{same_inner}

-- a position has a port of this number; one past the end has none
abbrev pub IsPortOf : List ℕ → Inner → Type 0
IsPortOf counts i = i.port < get_or counts i.position 0

-- at most 64 ports each
abbrev pub HaveFew : List ℕ → Type 0
HaveFew counts = (k : ℕ) → get_or counts k 0 ≤ 64

-- each end is a port, and each port is an end once
pub record AreMetOnce (counts : List ℕ) (ends : List Inner) : Type 0 where
  pub within : (i : Inner) → IsIn i ends → IsPortOf counts i
  pub once : (i : Inner) → IsPortOf counts i → count_by (same_inner i) ends ≡ 1

-- the place of a port in a table with 64 for each position
abbrev pub place_of : Inner → ℕ
place_of i = i.position * 64 + i.port

-- how many ends stand at a place
abbrev pub ends_at : ℕ → List Inner → ℕ
ends_at n ends = count_by (λ (i : Inner). place_of i == n) ends

-- a table with a flag for each place: it is set where one end stands, and elsewhere there is none
pub record IsTable (positions : ℕ) (marks : List Bool) (ends : List Inner) : Type 0 where
  pub count : length marks ≡ positions * 64
  pub each : (n : ℕ) → ends_at n ends ≡ cond {A = ℕ} (get_or marks n false) 1 0

-- two ends stand at one place
abbrev pub IsTwice : List Inner → Type 0
IsTwice ends = (i : Inner) × IsIn i ends × (2 ≤ ends_at (place_of i) ends)
