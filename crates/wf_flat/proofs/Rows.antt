-- Steps along the rows of a matrix.
use Rattle.std.proofs.Common.{◌≡◌, ℕ, suc, ◌+◌, ◌-◌, ◌<◌, cond, List, [], ◌∷◌, ◌++◌, flat_map, get_or, ap, sym, ◌∙◌, arith, append_assoc}
use Rattle.std.specs.Prelude.{◌==◌}
use Rattle.std.specs.Int.{bit_at}
use Rattle.wf_model.specs.Lists.{numbers_from}
use Rattle.wf_flat.specs.Graph.{pair, row_links, matrix_links}

pub numbers_step : (k n m : ℕ) → n ≡ suc m → numbers_from k n ≡ k ∷ numbers_from (k + 1) m
numbers_step k n m e = ap (numbers_from k) e ∙ (let f : suc k ≡ k + 1 = omega arith in ap (λ j. k ∷ numbers_from j m) f)

pub row_step : (k i row o n : ℕ) → o < n → row_links k i row o (n - o) ≡ cond (bit_at row o == 1) (pair k i o ∷ []) [] ++ row_links k i row (o + 1) (n - (o + 1))
row_step k i row o n h = let e : n - o ≡ suc (n - (o + 1)) = omega arith in ap (flat_map (λ j. cond (bit_at row j == 1) (pair k i j ∷ []) [])) (numbers_step o (n - o) (n - (o + 1)) e)

pub matrix_step : (k : ℕ) (rows : List ℕ) (outputs i n : ℕ) → i < n → matrix_links k rows outputs i (n - i) ≡ row_links k i (get_or rows i 0) 0 outputs ++ matrix_links k rows outputs (i + 1) (n - (i + 1))
matrix_step k rows outputs i n h = let e : n - i ≡ suc (n - (i + 1)) = omega arith in ap (flat_map (λ j. row_links k j (get_or rows j 0) 0 outputs)) (numbers_step i (n - i) (n - (i + 1)) e)

pub go_on : {A : Type 0} (new xs g f more all : List A) → new ≡ xs ++ g → xs ++ f ≡ all → f ≡ g ++ more → new ++ more ≡ all
go_on new xs g f more all e h s = ap (λ l. l ++ more) e ∙ (append_assoc xs g more ∙ (ap (λ l. xs ++ l) (sym s) ∙ h))
