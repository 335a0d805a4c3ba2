-- How a pool holds its matrices.
use Rattle.std.specs.Prelude.{ℕ, ◌+◌, ◌≤◌, List, length, take, drop}
use Rattle.bool_mat.specs.Matrix.{Matrix, IsMatrix}
use Rattle.bool_mat.specs.declared.pool.Shape.{Shape}

-- the matrix whose rows stand at this place of the words
abbrev pub matrix_in : List ℕ → Shape → Matrix
matrix_in words s = record { rows = take s.rows (drop s.start words); columns = s.columns }

-- the place is within the words, and what stands there is a matrix
pub record Stored (words : List ℕ) (s : Shape) : Type 0 where
  pub inside : s.start + s.rows ≤ length words
  pub is_matrix : IsMatrix (matrix_in words s)
