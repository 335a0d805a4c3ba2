-- What was put of the answers to the lines of a file, by how the lines were taken.
use Rattle.std.proofs.Common.{◌≡◌, ◌<◌, ℕ, List, [], ◌++◌, length, take, Option, Some, None, refl, sym, subst, inr, arith, append-nil}
use Rattle.std.proofs.lemmas.List.{take_all}
use Rattle.std.proofs.lemmas.Option.{same_Some}
use Rattle.wf_io.specs.Told.{Appended}
use Rattle.wf_io.specs.Lines.{FileLines, AtEnd}
use Rattle.wf_io.proofs.Appending.{begun_none}
use Rattle.wf_lines.specs.LineStages.{AllTaken, OfLines, ClosesOrGoesOn}
use Rattle.wf_lines.specs.Taking.{AreTaken, AreStopped}
use Rattle.wf_lines.proofs.LineStages.{lines_on}
use Rattle.wf_query.specs.Lines.{Ended, All, query_ends, IsOneWord, TakesQuery, StopsQueries, EndsQueries, AreAnswered, ArePut}
use Rattle.wf_query.specs.Answering.{MakesNothing, NeverStops}
use Rattle.wf_query.proofs.AnsweredLines.{one_answering, answered_by, answered_too}

-- a text that was put whole was begun
begun_whole : (text : List ℕ) (old new : Option (List ℕ)) → Appended text old new → (k : ℕ) × Appended (take k text) old new
begun_whole text old new put = (length text, subst (λ x. Appended x old new) (sym (take_all (length text) text (omega arith))) put)

-- nothing was put, and nothing is told of how the lines ended
pub none_put : (Answers : List ℕ → List ℕ → List ℕ → Type 0) (file : FileLines) (Failed : Type 0) (old new : Option (List ℕ)) → (Failed → ⊥) → new ≡ old → ArePut Answers file None Failed old new
none_put Answers file Failed old new never same = record {
  whole = λ e is. absurd (cc);
  begun = λ e t h. begun_none t old new same;
  some = λ failed. absurd (never failed);
}

-- what was put by one relation was put by another that holds of the same names and words
pub put_alike : (Answers Other : List ℕ → List ℕ → List ℕ → Type 0) → ((first second word : List ℕ) → Answers first second word → Other first second word) → ((first second word : List ℕ) → Other first second word → Answers first second word) →
    (file : FileLines) (ending : Option Ended) (Failed : Type 0) (old new : Option (List ℕ)) → ArePut Answers file ending Failed old new → ArePut Other file ending Failed old new
put_alike Answers Other to from file ending Failed old new put = record {
  whole = λ e is. let w = put.whole e is in (w.0, answered_too Answers Other to file e w.0 w.1, w.2);
  begun = λ e t h. put.begun e t (answered_too Other Answers from file e t h);
  some = λ failed e t h. put.some failed e t (answered_too Other Answers from file e t h);
}

module _ {K : Type 0} (Words : K → List ℕ → List ℕ → List ℕ → Type 0) (k : K) (file : FileLines) (old new : Option (List ℕ)) where
  -- all lines of a whole file were taken
  pub put_of_taken : (IsAt : K → Type 0) → IsOneWord (Words k) → AreTaken (AllTaken query_ends (TakesQuery Words) StopsQueries k file.lines) MakesNothing IsAt file.tail old new → ArePut (Words k) file (Some All) ⊥ old new
  put_of_taken IsAt one t = record {
    whole = λ e is. (t.text ++ t.last, subst (λ z. AreAnswered (Words k) file z (t.text ++ t.last)) (same_Some All e is) all, t.put);
    begun = λ e text h. subst (λ z. (n : ℕ) × Appended (take n z) old new) (one_answering (Words k) one file All e (t.text ++ t.last) text all h).1 (begun_whole (t.text ++ t.last) old new t.put);
    some = λ failed. absurd failed;
  }
    where
      all : AreAnswered (Words k) file All (t.text ++ t.last)
      all =
          answered_by {J = Unit {0}} Words (λ u. Words k) EndsQueries EndsQueries k tt (λ first second word h. h) (λ e text h. h) file.tail file.lines All (t.text ++ t.last)
          (subst (λ ls. OfLines query_ends (TakesQuery Words) StopsQueries EndsQueries k ls file.tail All (t.text ++ t.last)) (append-nil file.lines)
          (subst (λ tail. OfLines query_ends (TakesQuery Words) StopsQueries EndsQueries k (file.lines ++ []) tail All (t.text ++ t.last)) (sym t.whole)
          (lines_on query_ends (TakesQuery Words) StopsQueries EndsQueries AtEnd file.lines [] k t.state t.text t.taken All t.last (refl, t.finished))))

  -- the lines were stopped
  pub put_of_stopped : (ending : Option Ended) (Failed : Type 0) → AreStopped (OfLines query_ends (TakesQuery Words) StopsQueries NeverStops k file.lines file.tail) (OfLines query_ends (TakesQuery Words) StopsQueries (ClosesOrGoesOn MakesNothing NeverStops) k file.lines file.tail) ending Failed old new → ArePut (Words k) file ending Failed old new
  put_of_stopped ending Failed s = record {
    whole = λ e is. let w = s.whole e is in (w.0, answered_by {J = Unit {0}} Words (λ u. Words k) NeverStops EndsQueries k tt (λ first second word h. h) (λ d t h. absurd h) file.tail file.lines e w.0 w.1, w.2);
    begun = λ e t h. s.begun e t (may_go_on e t h);
    some = λ failed e t h. s.some failed e t (may_go_on e t h);
  }
    where
      may_go_on : (e : Ended) (t : List ℕ) → AreAnswered (Words k) file e t → OfLines query_ends (TakesQuery Words) StopsQueries (ClosesOrGoesOn MakesNothing NeverStops) k file.lines file.tail e t
      may_go_on e t h = answered_by {K = Unit {0}} (λ u. Words k) Words EndsQueries (ClosesOrGoesOn MakesNothing NeverStops) tt k (λ first second word h. h) (λ d u h. inr ([], [], refl, h.1)) file.tail file.lines e t h
