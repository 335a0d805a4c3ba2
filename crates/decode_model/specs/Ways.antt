-- Ways from one address to another that pass one body from one position to another.
use Rattle.std.specs.Prelude.{ℕ, ◌<◌, IsTrue, List}
use Rattle.bool_mat.specs.Matrix.{Then}
use Rattle.wf_model.specs.Grammar.{Grammar, Assignment, inputs_of, outputs_of}
use Rattle.wf_model.specs.Reach.{Step, target_of, module_along, Between}
use Rattle.wf_laws.specs.Splits.{IntoAll, OutAll}

-- the pairs of a module
abbrev pub Pairs : Assignment → ℕ → ℕ → ℕ → Type 0
Pairs d m i o = IsTrue (d m i o)

-- from input i of what the first steps lead to up, across one body from the position of s to that of t, and down to output o of what the second steps lead to
abbrev pub Crosses : Grammar → Assignment → Step → List Step → Step → List Step → ℕ → ℕ → Type 0
Crosses g d s a t b i o =
    (j : ℕ) × (k : ℕ) × (j < outputs_of g (target_of g s)) × (k < inputs_of g (target_of g t)) ×
    Then (Pairs d (module_along g (target_of g s) a)) (OutAll g d a) i j ×
    Between g d s t.position j k ×
    Then (IntoAll g d b) (Pairs d (module_along g (target_of g t) b)) k o
