-- Worked row products, in which the order of the factors matters.
use Rattle.std.specs.Prelude.{ℕ, [], ◌∷◌}
use Rattle.bool_mat.specs.Matrix.{Matrix, IsProduct}
use Rattle.decode_model.specs.Rows.{Through}

-- a matrix of three rows and three columns
abbrev pub three : ℕ → ℕ → ℕ → Matrix
three a b c = record { rows = a ∷ b ∷ c ∷ []; columns = 3 }

-- A cycle has two modules. The step down out of the first exchanges the first two ports, and so does the step up to it
abbrev pub first : Matrix
first = three 2 1 4

-- the step down out of the second exchanges the last two ports, and so does the step up to it
abbrev pub second : Matrix
second = three 1 4 2

-- once round from the first module, on the way down
abbrev pub round_down : Matrix
round_down = three 4 1 2

-- once round, on the way up to the first module
abbrev pub round_up : Matrix
round_up = three 2 4 1

-- Three steps are one round and a rest of one. Down from the first module the round comes first, up to it the rest comes first, and each other order of these matrices leads elsewhere
pub record OrdersAreWorked : Type 0 where
  pub down_product : IsProduct first second round_down
  pub up_product : IsProduct second first round_up
  -- from port 0 down to port 2
  pub steps_down : Through (first ∷ second ∷ first ∷ []) 1 4
  pub round_then_rest : Through (round_down ∷ first ∷ []) 1 4
  pub rest_then_round : Through (first ∷ round_down ∷ []) 1 1
  pub turned_then_rest : Through (round_up ∷ first ∷ []) 1 1
  -- from port 2 up to port 0
  pub steps_up : Through (first ∷ second ∷ first ∷ []) 4 1
  pub rest_then_round_up : Through (first ∷ round_up ∷ []) 4 1
  pub round_then_rest_up : Through (round_up ∷ first ∷ []) 4 2
  pub rest_then_turned : Through (first ∷ round_down ∷ []) 4 2
