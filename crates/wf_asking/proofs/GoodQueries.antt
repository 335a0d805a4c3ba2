-- A file of queries is answered to its end.
use Rattle.std.proofs.Common.{◌≡◌, ℕ, List, [], ◌∷◌, refl, sym, ap, ◌∙◌, inl, inr, true≢false}
use Rattle.wf_model.specs.Lists.{IsIn}
use Rattle.wf_io.specs.Told.{File}
use Rattle.wf_io.specs.Lines.{Line, Tail, AtEnd, Broken, LongFile, lines_in}
use Rattle.wf_lines.specs.LineStages.{OfLines}
use Rattle.wf_query.specs.Lines.{Ended, All, query_ends, TakesQuery, StopsQueries, EndsQueries}
use Rattle.wf_stage.specs.Outcomes.{EndsInDone}
use Rattle.wf_asking.specs.Queries.{end_of_lines, QueriesStage}
use Rattle.wf_asking.specs.GoodQueries.{IsQueryLine, AreQueries}

module _ (Answers : List ℕ → List ℕ → List ℕ → Type 0) where
  -- lines that all are queries are answered to the end
  all_answered : (tail : Tail) → tail ≡ AtEnd → (ls : List Line) → ((l : Line) → IsIn l ls → IsQueryLine l) → (s : Unit {0}) (e : Ended) (t : List ℕ) → OfLines query_ends (TakesQuery {K = Unit {0}} (λ k. Answers)) StopsQueries EndsQueries s ls tail e t → e ≡ All
  all_answered AtEnd is [] good s e t h = h.0
  all_answered Broken is [] good s e t h = absurd (cc)
  all_answered (LongFile n) is [] good s e t h = absurd (cc)
  all_answered tail is (l ∷ ls) good s e t (inl (inl long)) = absurd (true≢false (sym long.0 ∙ (good l (inl refl)).0))
  all_answered tail is (l ∷ ls) good s e t (inl (inr wrong)) = let q = (good l (inl refl)).1 in absurd (wrong.1.0 q.0 q.1 q.2)
  all_answered tail is (l ∷ ls) good s e t (inr h) = all_answered tail is ls (λ x at. good x (inr at)) h.0 e h.2 h.4

  -- so is a file of queries
  pub queries_done : (queries : File) → AreQueries (lines_in queries) → EndsInDone (QueriesStage Answers queries)
  queries_done queries good e t h = h.2 ∙ ap end_of_lines (all_answered (lines_in queries).tail good.1 (lines_in queries).lines good.0 tt h.0 t h.1)
