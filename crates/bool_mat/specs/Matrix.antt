-- Boolean matrices as relations between rows and columns.
use Rattle.std.specs.Prelude.{◌≡◌, ℕ, zero, suc, ◌+◌, ◌<◌, ◌≤◌, ◌^◌, ◌==◌, ◌↔◌, Bool, IsTrue, List, [], length, get_or}
use Rattle.std.specs.List.{All}
use Rattle.std.specs.Int.{bit_at}

-- a matrix: its rows, each a number of which bit j stands for column j, and the number of its columns
pub record Matrix : Type 0 where
  pub rows : List ℕ
  pub columns : ℕ

-- the row has column j
unfoldable pub has : ℕ → ℕ → Bool
has row j = bit_at row j == 1

-- row i has column j
abbrev pub joins : Matrix → ℕ → ℕ → Bool
joins m i j = has (get_or m.rows i 0) j

-- at most 64 rows and 64 columns, and no bit past the columns
pub record IsMatrix (m : Matrix) : Type 0 where
  pub few_rows : length m.rows ≤ 64
  pub few_columns : m.columns ≤ 64
  pub within : All (λ row. row < 2 ^ m.columns) m.rows

-- the matrix of this number in a pool, and one with no rows past the end
abbrev pub matrix_at : List Matrix → ℕ → Matrix
matrix_at pool n = get_or pool n (record { rows = []; columns = 0 })

-- some row that the row selects has column k
abbrev pub Selects : ℕ → Matrix → ℕ → Type 0
Selects row m k = (j : ℕ) × IsTrue (has row j) × IsTrue (joins m j k)

-- the union of the rows that a row selects
abbrev pub IsUnion : ℕ → Matrix → ℕ → Type 0
IsUnion row m union = (k : ℕ) → IsTrue (has union k) ↔ Selects row m k

-- the pool has so many matrices more, from this number on, and those before keep their numbers
pub record Adds (old new : List Matrix) (first count : ℕ) : Type 0 where
  pub number : first ≡ length old
  pub total : length new ≡ length old + count
  pub kept : (k : ℕ) → k < length old → matrix_at new k ≡ matrix_at old k

-- one relation after another
abbrev pub Then : (ℕ → ℕ → Type 0) → (ℕ → ℕ → Type 0) → ℕ → ℕ → Type 0
Then R S i k = (j : ℕ) × R i j × S j k

-- a relation taken so many times
unfoldable pub Power : (ℕ → ℕ → Type 0) → ℕ → ℕ → ℕ → Type 0
Power R zero i k = i ≡ k
Power R (suc n) i k = Then R (Power R n) i k

-- the relation of a matrix
abbrev pub Joined : Matrix → ℕ → ℕ → Type 0
Joined m i j = IsTrue (joins m i j)

-- the matrix has exactly the pairs of a relation
abbrev pub Means : Matrix → (ℕ → ℕ → Type 0) → Type 0
Means m R = (i j : ℕ) → Joined m i j ↔ R i j

-- the product of two matrices: the composition of their relations
pub record IsProduct (a b p : Matrix) : Type 0 where
  pub is_matrix : IsMatrix p
  pub rows : length p.rows ≡ length a.rows
  pub columns : p.columns ≡ b.columns
  pub pairs : Means p (Then (Joined a) (Joined b))

-- the transpose: each pair with its ends exchanged
pub record IsTransposed (a t : Matrix) : Type 0 where
  pub is_matrix : IsMatrix t
  pub rows : length t.rows ≡ a.columns
  pub columns : t.columns ≡ length a.rows
  pub pairs : Means t (λ j i. Joined a i j)

-- a square matrix raised to a power of at least 1
pub record IsPower (a : Matrix) (n : ℕ) (p : Matrix) : Type 0 where
  pub is_matrix : IsMatrix p
  pub rows : length p.rows ≡ length a.rows
  pub columns : p.columns ≡ a.columns
  pub pairs : Means p (Power (Joined a) n)

-- from this number on the pool has a matrix raised to 1, 2, 4 and so on
abbrev pub ArePowers : Matrix → List Matrix → ℕ → ℕ → Type 0
ArePowers a pool first count = (k : ℕ) → k < count → IsPower a (2 ^ k) (matrix_at pool (first + k))
