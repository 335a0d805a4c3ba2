-- The stage of QUERIES has an outcome.
use Rattle.std.proofs.Common.{ℕ, List, refl}
use Rattle.wf_io.specs.Told.{File}
use Rattle.wf_io.specs.Lines.{lines_in}
use Rattle.wf_query.proofs.SomeAnswers.{some_answers}
use Rattle.wf_stage.specs.Outcomes.{HasOutcome}
use Rattle.wf_asking.specs.Queries.{end_of_lines, QueriesStage}

-- the stage of QUERIES has an outcome where each query has an answer
pub some_queries_stage : (Answers : List ℕ → List ℕ → List ℕ → Type 0) → ((first second : List ℕ) → (word : List ℕ) × Answers first second word) → (queries : File) → HasOutcome (QueriesStage Answers queries)
some_queries_stage Answers some queries = let r = some_answers Answers some (lines_in queries) in (end_of_lines r.0, r.1, (r.0, r.2, refl))
