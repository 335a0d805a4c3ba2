-- The pairs of the bits of rows, as they are gone through.
use Rattle.std.specs.Prelude.{ℕ, ◌==◌, cond, List, [], ◌∷◌, flat_map, get_or, length}
use Rattle.std.specs.Int.{bit_at}
use Rattle.wf_model.specs.Lists.{numbers_from}

-- the pair of the input i and the output o, if its bit is set in the row of the input
abbrev pub bit_pair : ℕ → ℕ → ℕ → List (ℕ × ℕ)
bit_pair i row o = cond (bit_at row o == 1) ((i, o) ∷ []) []

-- the pairs of the first n bits of the row of the input i
abbrev pub row_pairs : ℕ → ℕ → ℕ → List (ℕ × ℕ)
row_pairs i row n = flat_map (bit_pair i row) (numbers_from 0 n)

-- the pairs of the first n bits of the first c rows
abbrev pub set_pairs_below : List ℕ → ℕ → ℕ → List (ℕ × ℕ)
set_pairs_below rows n c = flat_map (λ i. row_pairs i (get_or rows i 0) n) (numbers_from 0 c)

-- the pairs of the first n bits of all rows
abbrev pub set_pairs : List ℕ → ℕ → List (ℕ × ℕ)
set_pairs rows n = set_pairs_below rows n (length rows)
