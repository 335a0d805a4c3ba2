-- Words of sources as matrices.
use Rattle.std.proofs.Common.{◌≡◌, ◌↔◌, ℕ, ◌<◌, ◌≤◌, IsTrue, List, length, get_or, take, refl, sym, ◌∙◌, subst, inl, inr, arith, length-take}
use Rattle.std.proofs.lemmas.Bool.{cases_lt}
use Rattle.std.proofs.lemmas.List.{get_or-take, get_or_past}
use Rattle.bool_mat.specs.Matrix.{Matrix, has}
use Rattle.bool_mat.proofs.Rows.{has_none}
use Rattle.bool_mat.proofs.Products.{Turned, front_is_matrix}
use Rattle.wf_body.specs.Matrices.{IsMatrixOf}

-- words, as the rows of a matrix that has a column for each source
abbrev pub columns_of : List ℕ → Matrix
columns_of words = record { rows = words; columns = 64 }

-- the first rows that were made
pub turned_words : (words rows : List ℕ) (count : ℕ) → length rows ≡ 64 → count ≤ 64 → length words ≤ 64 → Turned (columns_of words) rows count →
    IsMatrixOf count (length words) (λ i j. (i < count) × IsTrue (has (get_or words j 0) i)) (record { rows = take count rows; columns = length words })
turned_words words rows count e l m t =
    let n = length-take count rows in
    record {
      is_matrix = front_is_matrix rows count (length words) t.within e l m;
      has_rows = omega arith;
      has_columns = refl;
      pairs = λ i j. elim (cases_lt i count) [
        | inl b ↦ let u = t.each i b j in let same = get_or-take count rows i 0 b in (
          (λ h. (b, u.0 (subst (λ z. IsTrue (has z j)) same h))),
          λ h. subst (λ z. IsTrue (has z j)) (sym same) (u.1 h.1),
        )
        | inr b ↦ let past : length (take count rows) ≤ i = omega arith in (
          (λ h. absurd (has_none j (subst (λ z. IsTrue (has z j)) (get_or_past (take count rows) i 0 past) h))),
          λ h. absurd (let c = h.0 in omega arith),
        )
      ];
    }

-- a matrix of one relation is a matrix of another with the same pairs
pub same_pairs : (rows columns : ℕ) (R S : ℕ → ℕ → Type 0) (m : Matrix) → ((i j : ℕ) → R i j ↔ S i j) → IsMatrixOf rows columns R m → IsMatrixOf rows columns S m
same_pairs rows columns R S m e h =
    record {
      is_matrix = h.is_matrix;
      has_rows = h.has_rows;
      has_columns = h.has_columns;
      pairs = λ i j. ((λ t. (e i j).0 ((h.pairs i j).0 t)), λ r. (h.pairs i j).1 ((e i j).1 r));
    }

-- the size, by equal numbers
pub resized : (rows columns n k : ℕ) (R : ℕ → ℕ → Type 0) (m : Matrix) → rows ≡ n → columns ≡ k → IsMatrixOf rows columns R m → IsMatrixOf n k R m
resized rows columns n k R m e f h = record { is_matrix = h.is_matrix; has_rows = h.has_rows ∙ e; has_columns = h.has_columns ∙ f; pairs = h.pairs }
