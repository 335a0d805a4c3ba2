-- The line of one module of a view.
use Rattle.std.proofs.Common.{◌≡◌, ℕ, Bool, true, cond, List, [], ◌++◌, get_or, Option, Some, None, sym, ap, ◌∙◌}
use Rattle.bool_mat.specs.Matrix.{has}
use Rattle.wf_model.specs.Meaning.{bit_of, pairs_of}

-- a pair is assigned to a module where its row has the column
pub pair_by : (full : List (Option (List ℕ))) (m i o k : ℕ) (rows : List ℕ) (there : Bool) → Some rows ≡ get_or full m None → k ≡ o → there ≡ has (get_or rows i 0) k → there ≡ pairs_of full m i o
unfolding has
pair_by full m i o k rows there held same is = is ∙ ap (λ j. bit_of (Some rows) i j) same ∙ ap (λ r. bit_of r i o) held

-- the line of a module that is seen was made in place of another
pub line_made : (line cleared made held : List ℕ) (seen : Bool) → seen ≡ true → cleared ≡ [] → made ≡ cleared ++ line → held ≡ made → held ≡ cond seen line []
line_made line cleared made held seen t empty is same = same ∙ is ∙ ap (λ l. l ++ line) empty ∙ ap (λ b. cond b line []) (sym t)
