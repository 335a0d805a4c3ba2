-- The matrices of continuing steps, one after another, on the way down and on the way up.
use Rattle.std.specs.Prelude.{◌≡◌, ℕ, suc, ◌+◌, ◌*◌, ◌<◌, ◌≤◌, List, length, Some}
use Rattle.bool_mat.specs.Matrix.{Matrix, IsProduct, matrix_at}
use Rattle.wf_model.specs.Grammar.{Grammar, Assignment, inputs_of, outputs_of, head_of}
use Rattle.wf_model.specs.Reach.{Step, target_of, Into, OutOf}
use Rattle.wf_laws.specs.Splits.{IntoAll, OutAll}
use Rattle.label_model.specs.Continuing.{continuing, after}
use Rattle.wf_body.specs.Matrices.{IsMatrixOf}
use Rattle.wf_vlabel.specs.declared.rounds.way.Way.{Way}
use Rattle.wf_vlabel.specs.declared.rounds.way.Way.TheVariants.{Down, Up}
use Rattle.wf_vlabel.specs.Groups.{GroupsSeen, matrix_of, HasGroup}
use Rattle.wf_vlabel.specs.Tables.{of_body, begins}
use Rattle.wf_vlabel.specs.RoundSteps.{steps_on}

-- the matrix of n continuing steps from the module m on
abbrev pub IsChain : Way → Grammar → Assignment → ℕ → ℕ → Matrix → Type 0
IsChain Down g d m n = IsMatrixOf (inputs_of g m) (inputs_of g (after g n m)) (IntoAll g d (steps_on g n m))
IsChain Up g d m n = IsMatrixOf (outputs_of g (after g n m)) (outputs_of g m) (OutAll g d (steps_on g n m))

-- the matrices of first and of later steps have a product: on the way up the later steps come first
abbrev pub FitAlong : Way → Matrix → Matrix → Type 0
FitAlong Down first later = first.columns ≡ length later.rows
FitAlong Up first later = later.columns ≡ length first.rows

-- this is the product
abbrev pub IsProductAlong : Way → Matrix → Matrix → Matrix → Type 0
IsProductAlong Down first later p = IsProduct first later p
IsProductAlong Up first later p = IsProduct later first p

-- at which place of those of a position its matrix stands
abbrev pub place_along : Way → ℕ
place_along Down = 0
place_along Up = 1

-- the matrices of a step are among those of its body
pub record HasStep (g : Grammar) (d : Assignment) (t : GroupsSeen) (s : Step) : Type 0 where
  pub has : HasGroup t s.production (of_body g s.production)
  pub into : IsMatrixOf (inputs_of g (head_of g s.production)) (inputs_of g (target_of g s)) (Into g d s) (matrix_of t s.production (begins g s))
  pub out_of : IsMatrixOf (outputs_of g (target_of g s)) (outputs_of g (head_of g s.production)) (OutOf g d s) (matrix_of t s.production (begins g s + 1))

-- so are those of the continuing steps of all modules of a cycle
abbrev pub HasSteps : Grammar → Assignment → GroupsSeen → ℕ → Type 0
HasSteps g d t first = (k : ℕ) (s : Step) → continuing g (after g k first) ≡ Some s → HasStep g d t s

-- from this number on a pool has, at every second place, those of the first 1, 2 and so on steps from the module at place 0 of a cycle
abbrev pub AreFirsts : Way → Grammar → Assignment → ℕ → ℕ → List Matrix → ℕ → Type 0
AreFirsts way g d first count pool n = (k : ℕ) → k < count → IsChain way g d first (suc k) (matrix_at pool (n + 2 * k))

-- and those of the last 1, 2 and so on steps of a cycle of so many modules
abbrev pub AreLasts : Way → Grammar → Assignment → ℕ → ℕ → ℕ → List Matrix → ℕ → Type 0
AreLasts way g d first size count pool n =
    (k place : ℕ) → k < count → place + suc k ≡ size → IsChain way g d (after g place first) (suc k) (matrix_at pool (n + 2 * k))

-- a pool begins with those of the first steps, and then has those of the last steps
pub record AreParts (way : Way) (g : Grammar) (d : Assignment) (first size : ℕ) (pool : List Matrix) : Type 0 where
  pub room : 4 * size ≤ length pool + 2
  pub firsts : AreFirsts way g d first size pool 0
  pub lasts : (n : ℕ) → n + 1 ≡ 2 * size → AreLasts way g d first size size pool n
