-- Matrices in groups: those of a group stand one after another in a pool.
use Rattle.std.specs.Prelude.{◌≡◌, ℕ, ◌+◌, ◌≤◌, List, [], length, get_or, Option, Some, None}
use Rattle.bool_mat.specs.Matrix.{Matrix, matrix_at}

-- a pool of matrices, and for each key the number of the first of its group, where it has one
pub record GroupsSeen : Type 0 where
  pub pool : List Matrix
  pub first : List (Option ℕ)

-- the k-th matrix from this number on, and one without rows where there is no number
abbrev pub nth_from : List Matrix → Option ℕ → ℕ → Matrix
nth_from pool None k = record { rows = []; columns = 0 }
nth_from pool (Some n) k = matrix_at pool (n + k)

-- the k-th matrix of a group
abbrev pub matrix_of : GroupsSeen → ℕ → ℕ → Matrix
matrix_of t key k = nth_from t.pool (get_or t.first key None) k

-- the key has a group of so many matrices
pub record HasGroup (t : GroupsSeen) (key count : ℕ) : Type 0 where
  pub number : ℕ
  pub has : get_or t.first key None ≡ Some number
  pub inside : number + count ≤ length t.pool
