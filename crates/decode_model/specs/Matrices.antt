-- The matrices of a view, and what they mean under an assignment.
use Rattle.std.specs.Prelude.{◌≢◌, ℕ, ◌^◌, ◌<◌, List, length, take}
use Rattle.bool_mat.specs.Matrix.{Matrix, Power, Means}
use Rattle.wf_model.specs.Grammar.{Grammar, Assignment, inputs_of, outputs_of, body_of}
use Rattle.wf_model.specs.View.{View, IsSeenModule}
use Rattle.wf_model.specs.Reach.{Step, target_of, module_along, Into, OutOf, Between}
use Rattle.wf_model.specs.OpenRoutes.{IsOpenStep, IsOpenRoute}
use Rattle.wf_laws.specs.Splits.{IntoAll, OutAll}
use Rattle.decode_model.specs.Ways.{Pairs}
use Rattle.decode_model.specs.Rounds.{IsRound}

-- the pairs of a module, within its ports
abbrev pub Within : Grammar → Assignment → ℕ → ℕ → ℕ → Type 0
Within g d m i o = (i < inputs_of g m) × (o < outputs_of g m) × Pairs d m i o

-- from an output of the step's position to an input of another position of that body, within their ports
abbrev pub Across : Grammar → Assignment → Step → ℕ → ℕ → ℕ → Type 0
Across g d s to j k =
    (j < outputs_of g (target_of g s)) × (k < inputs_of g (target_of g (record { production = s.production; position = to }))) × Between g d s to j k

-- once round the cycle from the module m, which is expanded whole
pub record IsOnceRound (g : Grammar) (u : View) (m : ℕ) (round : List Step) : Type 0 where
  pub goes_round : IsRound g m round
  pub some : 0 < length round
  pub least : (k : ℕ) → 0 < k → k < length round → module_along g m (take k round) ≢ m
  pub open_route : IsOpenRoute g u m round

-- the matrices of a view: into and out of the position of a step, between two positions, of the pairs of a module, and of 2^k rounds of its cycle down and up
pub record ViewMatrices : Type 0 where
  pub into : Step → Matrix
  pub out_of : Step → Matrix
  pub between : Step → ℕ → Matrix
  pub full : ℕ → Matrix
  pub square_in : ℕ → ℕ → Matrix
  pub square_out : ℕ → ℕ → Matrix

-- what they mean under an assignment
pub record AreMatrices (g : Grammar) (u : View) (d : Assignment) (v : ViewMatrices) : Type 0 where
  pub into : (s : Step) → IsOpenStep g u s → Means (v.into s) (Into g d s)
  pub out_of : (s : Step) → IsOpenStep g u s → Means (v.out_of s) (OutOf g d s)
  pub between : (s : Step) (to : ℕ) → IsOpenStep g u s → to < length (body_of g s.production) → Means (v.between s to) (Across g d s to)
  pub full : (m : ℕ) → IsSeenModule g u m → Means (v.full m) (Within g d m)
  pub square_in : (m : ℕ) (round : List Step) → IsOnceRound g u m round → (k : ℕ) → k < 24 → Means (v.square_in m k) (Power (IntoAll g d round) (2 ^ k))
  pub square_out : (m : ℕ) (round : List Step) → IsOnceRound g u m round → (k : ℕ) → k < 24 → Means (v.square_out m k) (Power (OutAll g d round) (2 ^ k))
