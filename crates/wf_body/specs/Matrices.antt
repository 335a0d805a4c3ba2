-- Matrices of one body.
use Rattle.std.specs.Prelude.{◌≡◌, ℕ, ◌+◌, ◌<◌, ◌^◌, IsTrue, List, Option, Some, None, length, get_or}
use Rattle.std.specs.List.{All}
use Rattle.wf_model.specs.declared.numbers.PosNo.{PosNo}
use Rattle.wf_model.specs.Lists.{IsIn}
use Rattle.wf_model.specs.Grammar.{Grammar, Assignment, inputs_of, outputs_of, head_of, body_of}
use Rattle.wf_model.specs.Reach.{Step, target_of, Into, OutOf, Between}
use Rattle.wf_model.specs.Safe.{BodyJoins}
pub use Rattle.wf_model.specs.Steps.{step_of}
use Rattle.bool_mat.specs.Matrix.{Matrix, IsMatrix, Means, has, matrix_at}
use Rattle.wf_body.specs.Body.{ToInput, ToExit}
use Rattle.wf_body.specs.Words.{source}

-- a step to another position of the same body
abbrev pub beside : Step → ℕ → Step
beside s to = record { production = s.production; position = to }

-- a module has rows of pairs: one for each input, and no bit past the outputs
pub record HasRows (g : Grammar) (deps : List (Option (List ℕ))) (m : ℕ) : Type 0 where
  pub rows : List ℕ
  pub within : m < length deps
  pub held : get_or deps m None ≡ Some rows
  pub one_each : length rows ≡ inputs_of g m
  pub no_more : All (λ r. r < 2 ^ outputs_of g m) rows

-- so has each module of a body
abbrev pub HaveRows : Grammar → ℕ → List (Option (List ℕ)) → Type 0
HaveRows g p deps = (m : ℕ) → IsIn m (body_of g p) → HasRows g deps m

-- the matrix has so many rows and columns, and exactly the pairs of a relation
pub record IsMatrixOf (rows columns : ℕ) (R : ℕ → ℕ → Type 0) (m : Matrix) : Type 0 where
  pub is_matrix : IsMatrix m
  pub has_rows : length m.rows ≡ rows
  pub has_columns : m.columns ≡ columns
  pub pairs : Means m R

-- sources are inputs of the head, or outputs of a position of the body
abbrev pub AreSourcesOf : Grammar → ℕ → Option PosNo → Type 0
AreSourcesOf g p None = Unit {0}
AreSourcesOf g p (Some s) = s.0 < length (body_of g p)

-- how many sources there are
abbrev pub sources_of : Grammar → ℕ → Option PosNo → ℕ
sources_of g p None = inputs_of g (head_of g p)
sources_of g p (Some s) = outputs_of g (get_or (body_of g p) s.0 0)

-- the matrix of the paths from sources to the inputs of a position
abbrev pub LeadsToInputs : Grammar → Assignment → ℕ → Option PosNo → ℕ → Matrix → Type 0
LeadsToInputs g d p from k = IsMatrixOf (sources_of g p from) (inputs_of g (get_or (body_of g p) k 0)) (λ i j. ToInput g d p (source from i) k j)

-- the matrix of the paths from sources to the outputs of the head
abbrev pub LeadsToExits : Grammar → Assignment → ℕ → Option PosNo → Matrix → Type 0
LeadsToExits g d p from = IsMatrixOf (sources_of g p from) (outputs_of g (head_of g p)) (λ i o. ToExit g d p (source from i) o)

-- from this number on a pool has those to the inputs of each position
abbrev pub LeadToAllInputs : Grammar → Assignment → ℕ → Option PosNo → List Matrix → ℕ → Type 0
LeadToAllInputs g d p from pool n = (k : ℕ) → k < length (body_of g p) → LeadsToInputs g d p from k (matrix_at pool (n + k))

-- the matrix from the head of a production to a position of its body
abbrev pub IsMatrixInto : Grammar → Assignment → Step → Matrix → Type 0
IsMatrixInto g d s = IsMatrixOf (inputs_of g (head_of g s.production)) (inputs_of g (target_of g s)) (Into g d s)

-- that from a position to the head
abbrev pub IsMatrixOutOf : Grammar → Assignment → Step → Matrix → Type 0
IsMatrixOutOf g d s = IsMatrixOf (outputs_of g (target_of g s)) (outputs_of g (head_of g s.production)) (OutOf g d s)

-- that from a position to another
abbrev pub IsMatrixBetween : Grammar → Assignment → Step → ℕ → Matrix → Type 0
IsMatrixBetween g d s to = IsMatrixOf (outputs_of g (target_of g s)) (inputs_of g (target_of g (beside s to))) (Between g d s to)

-- from this number on a pool has those from a position to each position of the same body
abbrev pub AreMatricesBetween : Grammar → Assignment → Step → List Matrix → ℕ → Type 0
AreMatricesBetween g d s pool n = (to : ℕ) → to < length (body_of g s.production) → IsMatrixBetween g d s to (matrix_at pool (n + to))

-- the matrix of the pairs that a body joins
abbrev pub IsMatrixJoined : Grammar → Assignment → ℕ → Matrix → Type 0
IsMatrixJoined g d p = IsMatrixOf (inputs_of g (head_of g p)) (outputs_of g (head_of g p)) (BodyJoins g d p)

-- the matrix of words of so many sources: it joins a source to the words that have its bit
abbrev pub IsMatrixTurned : List ℕ → ℕ → Matrix → Type 0
IsMatrixTurned words sources = IsMatrixOf sources (length words) (λ i j. (i < sources) × IsTrue (has (get_or words j 0) i))
