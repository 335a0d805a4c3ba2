-- Row products, one after another.
use Rattle.std.specs.Prelude.{◌≡◌, ℕ, ◌+◌, List, [], ◌∷◌, length}
use Rattle.bool_mat.specs.Matrix.{Matrix, Joined, Then, IsUnion}

-- a row times the matrices, one after another, is the last row
abbrev pub Through : List Matrix → ℕ → ℕ → Type 0
Through [] row last = row ≡ last
Through (m ∷ ms) row last = (next : ℕ) × IsUnion row m next × Through ms next last

-- the relations of matrices, one after another
abbrev pub Along : List Matrix → ℕ → ℕ → Type 0
Along [] i j = i ≡ j
Along (m ∷ ms) i j = Then (Joined m) (Along ms) i j

-- so far the first row went through these matrices, and as many row products were counted
pub record Progress (done : List Matrix) (first row start now : ℕ) : Type 0 where
  pub through : Through done first row
  pub counted : now ≡ start + length done
