-- The matrices of a view in groups: by module those of its pairs, by production those of its body, by module those of its cycle.
use Rattle.std.specs.Prelude.{◌≡◌, ℕ, ◌+◌, ◌*◌, ◌^◌, ◌<◌, Bool, List, length}
use Rattle.bool_mat.specs.Matrix.{Matrix, Power, matrix_at}
use Rattle.wf_model.specs.Grammar.{Grammar, Assignment, inputs_of, outputs_of, head_of, body_of}
use Rattle.wf_model.specs.View.{View, expands, IsSeenModule}
use Rattle.wf_model.specs.Reach.{Step, target_of, Into, OutOf, Between}
use Rattle.wf_laws.specs.Splits.{IntoAll, OutAll}
use Rattle.wf_body.specs.Matrices.{IsMatrixOf, beside}
use Rattle.wf_model.specs.OpenRoutes.{IsOpenStep}
use Rattle.decode_model.specs.Matrices.{ViewMatrices, IsOnceRound, Within}
use Rattle.wf_vlabel.specs.Groups.{GroupsSeen, matrix_of, HasGroup}

-- a view expands the modules that are flagged
abbrev pub Expands : View → (ℕ → Bool) → Type 0
Expands u expanded = (m : ℕ) → expands u m ≡ expanded m

-- of each position of a body its way in, its way out, and one to each position are kept: so many matrices
abbrev pub of_position : Grammar → ℕ → ℕ
of_position g p = length (body_of g p) + 2

-- so many of each body
abbrev pub of_body : Grammar → ℕ → ℕ
of_body g p = length (body_of g p) * of_position g p

-- where those of a position begin within those of the body
abbrev pub begins : Grammar → Step → ℕ
begins g s = s.position * of_position g s.production

-- from this number on a pool has the matrices of a position
pub record IsStepGroup (g : Grammar) (d : Assignment) (s : Step) (pool : List Matrix) (n : ℕ) : Type 0 where
  pub into : IsMatrixOf (inputs_of g (head_of g s.production)) (inputs_of g (target_of g s)) (Into g d s) (matrix_at pool n)
  pub out_of : IsMatrixOf (outputs_of g (target_of g s)) (outputs_of g (head_of g s.production)) (OutOf g d s) (matrix_at pool (n + 1))
  pub between : (to : ℕ) → to < length (body_of g s.production) → IsMatrixOf (outputs_of g (target_of g s)) (inputs_of g (target_of g (beside s to))) (Between g d s to) (matrix_at pool (n + (2 + to)))

-- from this number on it has those of each of the first k positions of a body
abbrev pub AreStepGroups : Grammar → Assignment → ℕ → ℕ → List Matrix → ℕ → Type 0
AreStepGroups g d p k pool n = (j : ℕ) → j < k → IsStepGroup g d (record { production = p; position = j }) pool (n + begins g (record { production = p; position = j }))

-- each module that is seen has the matrix of its pairs
pub record AreFullGroups (g : Grammar) (expanded : ℕ → Bool) (d : Assignment) (t : GroupsSeen) : Type 0 where
  pub has : (u : View) (m : ℕ) → Expands u expanded → IsSeenModule g u m → HasGroup t m 1
  pub full : (u : View) (m : ℕ) → Expands u expanded → IsSeenModule g u m → IsMatrixOf (inputs_of g m) (outputs_of g m) (Within g d m) (matrix_of t m 0)

-- each production of a module that is seen and expanded has the matrices of its body
pub record AreBodyGroups (g : Grammar) (expanded : ℕ → Bool) (d : Assignment) (t : GroupsSeen) : Type 0 where
  pub has : (u : View) (s : Step) → Expands u expanded → IsOpenStep g u s → HasGroup t s.production (of_body g s.production)
  pub into : (u : View) (s : Step) → Expands u expanded → IsOpenStep g u s →
      IsMatrixOf (inputs_of g (head_of g s.production)) (inputs_of g (target_of g s)) (Into g d s) (matrix_of t s.production (begins g s))
  pub out_of : (u : View) (s : Step) → Expands u expanded → IsOpenStep g u s →
      IsMatrixOf (outputs_of g (target_of g s)) (outputs_of g (head_of g s.production)) (OutOf g d s) (matrix_of t s.production (begins g s + 1))
  pub between : (u : View) (s : Step) (to : ℕ) → Expands u expanded → IsOpenStep g u s → to < length (body_of g s.production) →
      IsMatrixOf (outputs_of g (target_of g s)) (inputs_of g (target_of g (beside s to))) (Between g d s to) (matrix_of t s.production (begins g s + (2 + to)))

-- each module of a cycle that is seen and expanded whole has the matrices of 1, 2, 4 and so on rounds down from it, 24 of them, and then as many of rounds up to it
pub record AreSquareGroups (g : Grammar) (expanded : ℕ → Bool) (d : Assignment) (t : GroupsSeen) : Type 0 where
  pub has : (u : View) (m : ℕ) (round : List Step) → Expands u expanded → IsOnceRound g u m round → HasGroup t m 48
  pub down : (u : View) (m : ℕ) (round : List Step) → Expands u expanded → IsOnceRound g u m round → (k : ℕ) → k < 24 →
      IsMatrixOf (inputs_of g m) (inputs_of g m) (Power (IntoAll g d round) (2 ^ k)) (matrix_of t m k)
  pub up : (u : View) (m : ℕ) (round : List Step) → Expands u expanded → IsOnceRound g u m round → (k : ℕ) → k < 24 →
      IsMatrixOf (outputs_of g m) (outputs_of g m) (Power (OutAll g d round) (2 ^ k)) (matrix_of t m (24 + k))

-- the matrices of the three tables
abbrev pub matrices_in : Grammar → GroupsSeen → GroupsSeen → GroupsSeen → ViewMatrices
matrices_in g full bodies squares = record {
  into = λ s. matrix_of bodies s.production (begins g s);
  out_of = λ s. matrix_of bodies s.production (begins g s + 1);
  between = λ s to. matrix_of bodies s.production (begins g s + (2 + to));
  full = λ m. matrix_of full m 0;
  square_in = λ m k. matrix_of squares m k;
  square_out = λ m k. matrix_of squares m (24 + k);
}
