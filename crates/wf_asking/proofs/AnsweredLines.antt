-- How QUERIES ends a command, where the answers to its lines were put.
use Rattle.std.proofs.Common.{◌≡◌, ◌≤◌, ℕ, Bool, List, [], ◌∷◌, Option, Some, refl, sym, subst}
use Rattle.std.specs.Prelude.{Result, Ok, Err, IfErr, OnOk}
use Rattle.wf_io.specs.Told.{File}
use Rattle.wf_io.specs.Readings.{Reading, IsReadOnce}
use Rattle.wf_io.specs.Lines.{lines_in}
use Rattle.wf_query.specs.Lines.{Ended, All, WrongAt, TooLongAt, LongFileAt, BrokenFile, ArePut, IsCauseOf, FailsToWrite, ended_by}
use Rattle.wf_query.specs.declared.batching.BatchFault.{BatchFault}
use Rattle.wf_query.specs.declared.batching.BatchFault.TheVariants.{LineWrong, LineTooLong, FileTooLong, ReadFault, WriteFault as WritingFailed, NoMemory as WantedMemory}
use Rattle.wf_message.specs.Endings.{End, WriteFault}
use Rattle.wf_stage.specs.Ends.{EndsBehind, IsOfOutcome}
use Rattle.wf_stage.specs.Causes.{IsCause}
use Rattle.wf_stage.specs.Promises.{Obeys}
use Rattle.wf_asking.specs.Queries.{end_of_lines, QueriesStage}
use Rattle.wf_asking.specs.Batched.{end_by}

-- lines that ended tell no fault of writing
no_writing : (e : Ended) → end_of_lines e ≡ WriteFault → ⊥
no_writing All is = absurd (cc)
no_writing (WrongAt n) is = absurd (cc)
no_writing (TooLongAt n) is = absurd (cc)
no_writing (LongFileAt n) is = absurd (cc)
no_writing BrokenFile is = absurd (cc)

module _ (Answers : List ℕ → List ℕ → List ℕ → Type 0) (queries : File) (old new : Option (List ℕ)) where
  -- where the lines ended, the command ends as they did
  ended : (e : Ended) (Failed : Type 0) → ArePut Answers (lines_in queries) (Some e) Failed old new → EndsBehind [] (QueriesStage Answers queries) (end_of_lines e) old new
  ended e Failed put = record {
    whole = λ w. let r = put.whole e refl in (r.0, (e, r.1, refl), r.2);
    begun = λ d t h. (t, refl, put.begun h.0 t h.1);
    due = λ w. absurd (no_writing e w);
  }

  -- where they did not, a beginning of their answers was put
  cut_off : (ending : Option Ended) (Failed : Type 0) → ArePut Answers (lines_in queries) ending Failed old new → (d : End) → (d ≡ WriteFault → Failed) → (IsOfOutcome d → ⊥) → EndsBehind [] (QueriesStage Answers queries) d old new
  cut_off ending Failed put d failed other = record {
    whole = λ w. absurd (other w);
    begun = λ e t h. (t, refl, put.begun h.0 t h.1);
    due = λ w e t h. put.some (failed w) h.0 t h.1;
  }

  -- what was put by a call makes how the command ends by what the call answers
  put_ends : {N : Type 0} (r : Result N BatchFault) → ArePut Answers (lines_in queries) (ended_by r) (FailsToWrite r) old new → EndsBehind [] (QueriesStage Answers queries) (end_by r) old new
  put_ends (Ok n) put = ended All _ put
  put_ends (Err (LineWrong n)) put = ended (WrongAt n) _ put
  put_ends (Err (LineTooLong n)) put = ended (TooLongAt n) _ put
  put_ends (Err (FileTooLong n)) put = ended (LongFileAt n) _ put
  put_ends (Err ReadFault) put = ended BrokenFile _ put
  put_ends (Err WritingFailed) put = cut_off _ _ put _ (λ w. refl) (λ w. w.0 refl)
  put_ends (Err WantedMemory) put = cut_off _ _ put _ (λ w. absurd (cc)) (λ w. w.1 refl)

-- what brought the end of lines brought that of the command
put_caused : {N : Type 0} (before after : ℕ) (last : Bool) (out_before out_after : ℕ) (out_last : Bool) (r : Result N BatchFault) → OnOk r (after ≡ before) → OnOk r (out_after ≡ out_before) → IfErr r (IsCauseOf before after last out_before out_after out_last) → IsCause before after last out_before out_after out_last (end_by r)
put_caused before after last out_before out_after out_last (Ok n) same put_same cause = (same, put_same)
put_caused before after last out_before out_after out_last (Err (LineWrong n)) same put_same cause = cause
put_caused before after last out_before out_after out_last (Err (LineTooLong n)) same put_same cause = cause
put_caused before after last out_before out_after out_last (Err (FileTooLong n)) same put_same cause = cause
put_caused before after last out_before out_after out_last (Err ReadFault) same put_same cause = cause
put_caused before after last out_before out_after out_last (Err WritingFailed) same put_same cause = cause
put_caused before after last out_before out_after out_last (Err WantedMemory) same put_same cause = cause

module _ {S T : Type 0} (files : S → Option (List ℕ → File)) (readings : S → Option (List Reading)) (faults : S → ℕ) (last : S → Bool) (bytes : T → Option (List ℕ)) (counts : T → ℕ) (out_last : T → Bool) (name : List ℕ) (Answers : List ℕ → List ℕ → List ℕ → Type 0) where
  -- the answers to the lines of QUERIES were put by a call
  pub queries_put : {N : Type 0} (s t : S) (o p : T) (r : Result N BatchFault) → ((f : List ℕ → File) → files s ≡ Some f → ArePut Answers (lines_in (f name)) (ended_by r) (FailsToWrite r) (bytes o) (bytes p)) →
      OnOk r (faults t ≡ faults s) → OnOk r (counts p ≡ counts o) → IfErr r (IsCauseOf (faults s) (faults t) (last t) (counts o) (counts p) (out_last p)) → files t ≡ files s → IsReadOnce name (readings s) (readings t) → faults s ≤ faults t → counts o ≤ counts p →
      (e : End) → e ≡ end_by r → Obeys files readings faults last bytes counts out_last (name ∷ []) [] (λ f. QueriesStage Answers (f name)) s t o p e
  queries_put s t o p r put same put_same cause kept once later put_later e is =
      subst (Obeys files readings faults last bytes counts out_last (name ∷ []) [] (λ f. QueriesStage Answers (f name)) s t o p) (sym is) (record {
        ends = λ f told. put_ends Answers (f name) (bytes o) (bytes p) r (put f told);
        cause = put_caused (faults s) (faults t) (last t) (counts o) (counts p) (out_last p) r same put_same cause;
        same = kept;
        in_turn = (readings t, once, refl);
        later = later;
        put_later = put_later;
      })
