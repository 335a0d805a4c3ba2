-- Groups in the making: matrices are added to a pool, key after key.
use Rattle.std.specs.Prelude.{◌≡◌, ℕ, ◌+◌, ◌<◌, ◌≤◌, List, Option, Some, None, length, get_or}
use Rattle.bool_mat.specs.Matrix.{Matrix, Adds, matrix_at}
use Rattle.wf_model.specs.Grammar.{Grammar, Assignment, outputs_of, head_of, body_of}
use Rattle.wf_model.specs.View.{View}
use Rattle.wf_body.specs.Matrices.{HasRows}
use Rattle.wf_safe.specs.Inducing.{IsSeenExpanded}
use Rattle.wf_vlabel.specs.Tables.{AreStepGroups, of_body}

-- the pool has more matrices at its end
abbrev pub Grows : List Matrix → List Matrix → Type 0
Grows old new = (count : ℕ) × Adds old new (length old) count

-- a module has rows exactly where it has a number, which is that of the matrix of its rows
abbrev pub IsRowsGroup : Grammar → List (Option (List ℕ)) → ℕ → List Matrix → Option ℕ → Type 0
IsRowsGroup g rows m pool None = get_or rows m None ≡ None
IsRowsGroup g rows m pool (Some n) = (n < length pool) × (held : HasRows g rows m) × (matrix_at pool n ≡ record { rows = held.rows; columns = outputs_of g m })

-- a production without a number has a head that is not both seen and expanded, and from the number of another stand the matrices of its body
abbrev pub IsBodyGroup : Grammar → View → Assignment → ℕ → List Matrix → Option ℕ → Type 0
IsBodyGroup g u d p pool None = IsSeenExpanded g u (head_of g p) → ⊥
IsBodyGroup g u d p pool (Some n) = (n + of_body g p ≤ length pool) × AreStepGroups g d p (length (body_of g p)) pool n

-- so it is for each of the first keys
pub record AreGroupsOf (P : ℕ → List Matrix → Option ℕ → Type 0) (count : ℕ) (pool : List Matrix) (first : List (Option ℕ)) : Type 0 where
  pub one_each : length first ≡ count
  pub each : (key : ℕ) → key < count → P key pool (get_or first key None)
