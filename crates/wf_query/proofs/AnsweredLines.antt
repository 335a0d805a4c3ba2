-- Lines of queries are answered in one way.
use Rattle.std.proofs.Common.{◌≡◌, ℕ, List, [], ◌∷◌, ◌++◌, refl, sym, ap, ◌∙◌, subst, inl, inr}
use Rattle.std.specs.Prelude.{codes}
use Rattle.wf_io.specs.Lines.{Line, FileLines, Tail, AtEnd, Broken, LongFile}
use Rattle.wf_lines.specs.LineStages.{OfLines, IsOneWay, IsClosedOneWay}
use Rattle.wf_lines.proofs.LineStages.{one_ending}
use Rattle.wf_query.specs.Lines.{Ended, query_ends, IsOneWord, IsAsked, TakesQuery, StopsQueries, EndsQueries, AreAnswered}
use Rattle.wf_query.specs.Answering.{MakesNothing, NeverStops}
use Rattle.wf_query.proofs.Queries.{query_law}

-- where a query has one word, one line is written of a text
one_written : (Answers : List ℕ → List ℕ → List ℕ → Type 0) → IsOneWord Answers → (text x y : List ℕ) → IsAsked Answers text x → IsAsked Answers text y → x ≡ y
one_written Answers one text x y p q =
    let s = query_law text p.first p.second q.first q.second p.query q.query in
    p.line ∙ (ap (λ a. a ++ codes "\n") (one q.first q.second p.answer q.answer (subst (λ n. Answers q.first n p.answer) s.1 (subst (λ n. Answers n p.second p.answer) s.0 p.is)) q.is) ∙ sym q.line)

module _ {K : Type 0} (Words : K → List ℕ → List ℕ → List ℕ → Type 0) where
  -- the text of a line is answered or refused in one way
  pub queries_one_way : IsOneWay (λ k. IsOneWord (Words k)) (TakesQuery Words) StopsQueries
  queries_one_way = record {
    sound = λ s n x q p ok h. subst (λ k. IsOneWord (Words k)) (sym h.0) ok;
    taken = λ s n x q r p t ok h k. (h.0 ∙ sym k.0, one_written (Words s) ok x p t h.1 k.1);
    apart = λ s n x q p e t ok h k. k.0 h.1.first h.1.second h.1.query;
    stopped = λ s n x d e t u ok h k. (h.1 ∙ sym k.1, h.2 ∙ sym k.2);
  }

  -- so is the end of the file, of which nothing is made
  pub queries_closed_one_way : IsClosedOneWay (λ k. IsOneWord (Words k)) MakesNothing NeverStops
  queries_closed_one_way = record {
    finished = λ s p t ok h k. h ∙ sym k;
    apart = λ s p e t ok h k. k;
    stopped = λ s d e t u ok h k. absurd h;
  }

-- where a query has one word, the lines of a file have one ending and one text
pub one_answering : (Answers : List ℕ → List ℕ → List ℕ → Type 0) → IsOneWord Answers → (file : FileLines) (d e : Ended) (t u : List ℕ) → AreAnswered Answers file d t → AreAnswered Answers file e u → (d ≡ e) × (t ≡ u)
one_answering Answers one file d e t u =
    one_ending query_ends (TakesQuery {K = Unit {0}} (λ k. Answers)) StopsQueries (λ k. IsOneWord Answers) (queries_one_way (λ k. Answers)) EndsQueries (λ s d e t u ok p q. (p.0 ∙ sym q.0, p.1 ∙ sym q.1)) file.tail file.lines tt d e t u one

-- what is asked by one relation is asked by another that holds where it holds
asked_too : (Answers Other : List ℕ → List ℕ → List ℕ → Type 0) → ((first second word : List ℕ) → Answers first second word → Other first second word) → (text written : List ℕ) → IsAsked Answers text written → IsAsked Other text written
asked_too Answers Other more text written p = record { first = p.first; second = p.second; query = p.query; answer = p.answer; is = more p.first p.second p.answer p.is; line = p.line }

module _ {K J : Type 0} (Words : K → List ℕ → List ℕ → List ℕ → Type 0) (Others : J → List ℕ → List ℕ → List ℕ → Type 0) (Closes : K → Ended → List ℕ → Type 0) (Ends : J → Ended → List ℕ → Type 0) (k : K) (j : J)
    (more : (first second word : List ℕ) → Words k first second word → Others j first second word) (closes : (e : Ended) (t : List ℕ) → Closes k e t → Ends j e t) where
  -- lines that are answered by what is known are answered by what else is known, where that has these words too and closes the file too
  pub answered_by : (tail : Tail) (ls : List Line) (e : Ended) (t : List ℕ) → OfLines query_ends (TakesQuery Words) StopsQueries Closes k ls tail e t → OfLines query_ends (TakesQuery Others) StopsQueries Ends j ls tail e t
  answered_by AtEnd [] e t h = closes e t h
  answered_by Broken [] e t h = h
  answered_by (LongFile n) [] e t h = h
  answered_by tail (l ∷ ls) e t (inl h) = inl h
  answered_by tail (l ∷ ls) e t (inr h) =
      let rest = subst (λ z. OfLines query_ends (TakesQuery Words) StopsQueries Closes z ls tail e h.2) h.3.1.0 h.4 in
      inr (j, h.1, h.2, (h.3.0, (refl, asked_too (Words k) (Others j) more _ h.1 h.3.1.1)), answered_by tail ls e h.2 rest, h.5)

-- lines that are answered by one relation are answered by each that holds where it holds
pub answered_too : (Answers Other : List ℕ → List ℕ → List ℕ → Type 0) → ((first second word : List ℕ) → Answers first second word → Other first second word) → (file : FileLines) (e : Ended) (t : List ℕ) → AreAnswered Answers file e t → AreAnswered Other file e t
answered_too Answers Other more file = answered_by {K = Unit {0}} {J = Unit {0}} (λ k. Answers) (λ k. Other) EndsQueries EndsQueries tt tt more (λ e t h. h) file.tail file.lines
