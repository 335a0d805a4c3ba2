-- The stage of QUERIES has one outcome at most.
use Rattle.std.proofs.Common.{ℕ, List, sym, ap, ◌∙◌}
use Rattle.wf_io.specs.Told.{File}
use Rattle.wf_io.specs.Lines.{lines_in}
use Rattle.wf_query.specs.Lines.{IsOneWord}
use Rattle.wf_query.proofs.AnsweredLines.{one_answering}
use Rattle.wf_stage.specs.Outcomes.{HasOneOutcome}
use Rattle.wf_asking.specs.Queries.{end_of_lines, QueriesStage}

-- the stage of QUERIES has one outcome, where a query has one word
pub one_queries_stage : (Answers : List ℕ → List ℕ → List ℕ → Type 0) → IsOneWord Answers → (queries : File) → HasOneOutcome (QueriesStage Answers queries)
one_queries_stage Answers one queries d e t s p q = let r = one_answering Answers one (lines_in queries) p.0 q.0 t s p.1 q.1 in (p.2 ∙ (ap end_of_lines r.0 ∙ sym q.2), r.1)
