-- The steps once round a cycle, and the matrices of many rounds.
use Rattle.std.specs.Prelude.{◌≡◌, ◌≢◌, ℕ, zero, suc, ◌+◌, ◌^◌, ◌<◌, ◌≤◌, IsTrue, List, [], ◌∷◌, ◌++◌, length, take, get_or, map, option_map, Option, Some, None}
use Rattle.bool_mat.specs.declared.pool.MatNo.{MatNo}
use Rattle.bool_mat.specs.Matrix.{Matrix, Power, matrix_at}
use Rattle.wf_model.specs.Grammar.{Grammar, Assignment, inputs_of, outputs_of}
use Rattle.wf_model.specs.View.{View, expands, IsSeenModule}
use Rattle.wf_model.specs.Reach.{Step, module_along}
use Rattle.wf_laws.specs.Splits.{IntoAll, OutAll}
use Rattle.label_model.specs.Continuing.{continuing, next_by, after}
use Rattle.wf_body.specs.Matrices.{IsMatrixOf}
use Rattle.decode_model.specs.Rounds.{IsRound}

-- a step, where there is one
abbrev pub steps_by : Option Step → List Step
steps_by None = []
steps_by (Some s) = s ∷ []

-- the continuing steps from the module m on, n of them
abbrev pub steps_on : Grammar → ℕ → ℕ → List Step
steps_on g zero m = []
steps_on g (suc n) m = steps_by (continuing g m) ++ steps_on g n (next_by g m (continuing g m))

-- once round the cycle from the module m: continuing steps back to it, and no fewer lead back
pub record IsOnce (g : Grammar) (m : ℕ) (round : List Step) : Type 0 where
  pub goes_round : IsRound g m round
  pub some : 0 < length round
  pub least : (k : ℕ) → 0 < k → k < length round → module_along g m (take k round) ≢ m

-- the cycle of which this is a module is seen and expanded whole
pub record IsOpenCycle (g : Grammar) (u : View) (first : ℕ) : Type 0 where
  pub seen : IsSeenModule g u first
  pub whole : (k : ℕ) → IsTrue (expands u (after g k first))

-- from this number on a pool has the matrices of 1, 2, 4 and so on rounds down from the module m, 24 of them, and then as many of rounds up to it
pub record IsSquareGroup (g : Grammar) (d : Assignment) (m : ℕ) (round : List Step) (pool : List Matrix) (n : ℕ) : Type 0 where
  pub inside : n + 48 ≤ length pool
  pub down : (k : ℕ) → k < 24 → IsMatrixOf (inputs_of g m) (inputs_of g m) (Power (IntoAll g d round) (2 ^ k)) (matrix_at pool (n + k))
  pub up : (k : ℕ) → k < 24 → IsMatrixOf (outputs_of g m) (outputs_of g m) (Power (OutAll g d round) (2 ^ k)) (matrix_at pool (n + (24 + k)))

-- the module m has them, from the number that is told of it, whatever list is once round
abbrev pub HasRounds : Grammar → Assignment → ℕ → List Matrix → List (Option ℕ) → Type 0
HasRounds g d m pool first = (n : ℕ) × (get_or first m None ≡ Some n) × ((round : List Step) → IsOnce g m round → IsSquareGroup g d m round pool n)

-- the numbers of matrices, where there are some
abbrev pub numbers_in : List (Option MatNo) → List (Option ℕ)
numbers_in = map (option_map (λ n. n.0))
