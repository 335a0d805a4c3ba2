-- How CHAIN ends a command, or is taken on, and what is said of its lines.
use Rattle.std.proofs.Common.{ℕ, Bool, List, [], ◌∷◌, Option, refl, sym, ◌∙◌, subst, arith}
use Rattle.wf_model.specs.Grammar.{Grammar}
use Rattle.wf_model.specs.WellFormed.{IsWellFormed}
use Rattle.wf_model.specs.Proper.{IsProper}
use Rattle.wf_model.specs.View.{View}
use Rattle.wf_model.specs.Safe.{IsSafe}
use Rattle.wf_model.specs.Finishing.{ExpandsComposites}
use Rattle.wf_model.specs.declared.event.Event.{Event}
use Rattle.wf_model.specs.Run.{IsRun}
use Rattle.wf_laws.proofs.Full.{safe_full_law}
use Rattle.wf_io.specs.Told.{File}
use Rattle.wf_io.specs.Readings.{Reading}
use Rattle.wf_io.specs.Lines.{FileLines, lines_in}
use Rattle.wf_message.specs.Endings.{End, Done}
use Rattle.wf_stage.specs.Ends.{IsWritten}
use Rattle.wf_stage.specs.Causes.{IsCause}
use Rattle.wf_stage.specs.Outcomes.{HasOneOutcome, HasOutcome, EndsInDone}
use Rattle.wf_stage.specs.Promises.{HasReadLines, HasStoppedLines, Writes, Obeys}
use Rattle.wf_stage.proofs.Ends.{begins_nothing, nothing_put, ends_alike}
use Rattle.wf_stage.proofs.Obeying.{cause_of_reading, cause_of_writing, never_writes, none_read}
use Rattle.wf_safe.specs.SafeViews.{IsSafeView}
use Rattle.wf_flat.specs.Table.{IsTableOf}
use Rattle.wf_chain.specs.ViewedRuns.{ViewedRunValue, grammar_in, view_in, full_in, events_in}
use Rattle.wf_reason.specs.HandedIn.{HasLines, HandedLine, ChainStage, StopsLines}
use Rattle.wf_reason.specs.Checked.{IsCheckedText, IsSaidOf}
use Rattle.wf_reason.specs.Told.{TellsChecked}
use Rattle.wf_reason.proofs.OneText.{one_text, one_text_law}
use Rattle.wf_reason.proofs.SameLines.{checked_same}
use Rattle.wf_reason.proofs.TakenLines.{stops_chain, chain_on, chain_goes_on}

module _ (g : Grammar) (u : View) (proper : IsProper g) (composites : ExpandsComposites g u) (events : List Event) (run : IsRun g g.start events) where
  -- one text is said of lines
  pub one_said : (lines : List HandedLine) → HasOneOutcome (IsSaidOf g u events lines)
  one_said lines d e t s p q = (p.done ∙ sym q.done, one_text g u q.d g.start events lines t s (checked_same g u proper composites p.d q.d p.full q.full events run lines t p.checked) q.checked)

  -- and some text is, under a safe view
  pub some_said : IsWellFormed g → IsSafe g u → (lines : List HandedLine) → HasOutcome (IsSaidOf g u events lines)
  some_said wf safe lines =
      let full = safe_full_law g u wf proper composites safe in
      let text = one_text_law g u full.0 wf events run lines in
      (Done, text.text, record { done = refl; d = full.0; full = full.1; checked = text.is })

-- of a whole file whose lines have the form of their turns something is said
pub chain_done : (file : File) → HasLines file → (g : Grammar) (u : View) (events : List Event) → EndsInDone (ChainStage (lines_in file) (IsSaidOf g u events))
chain_done file has g u events e t h = (chain_goes_on (lines_in file) has.0 has.1 (IsSaidOf g u events) e t h).done

-- what is said of a file by its text
module _ (v : ViewedRunValue) (safe : IsSafeView v.viewed) (run : IsTableOf (grammar_in v) v.run) (file : FileLines) (text : List ℕ) (is : TellsChecked v file text) where
  abbrev Stage : End → List ℕ → Type 0
  Stage = ChainStage file (IsSaidOf (grammar_in v) (view_in v) (events_in v))

  pub written_is : (e : End) (t : List ℕ) → IsWritten text e t → Stage e t
  written_is e t w =
      chain_on file is.0 is.1 (IsSaidOf (grammar_in v) (view_in v) (events_in v)) e t
      (record { done = w.0; d = full_in v; full = safe.full.full; checked = subst (λ z. IsCheckedText (grammar_in v) (view_in v) (full_in v) (grammar_in v).start (events_in v) is.0 z) (sym w.1) is.2 })

  pub is_written : (e : End) (t : List ℕ) → Stage e t → IsWritten text e t
  is_written e t h =
      let q = chain_goes_on file is.0 is.1 (IsSaidOf (grammar_in v) (view_in v) (events_in v)) e t h in
      let one = one_said (grammar_in v) (view_in v) safe.accepted.proper safe.held.is_view.expanded (events_in v) run.accepted.0 is.0 e Done t text q
      (record { done = refl; d = full_in v; full = safe.full.full; checked = is.2 }) in
      (one.0, one.1)

module _ {S T : Type 0} {files : S → Option (List ℕ → File)} {readings : S → Option (List Reading)} {faults : S → ℕ} {last : S → Bool} {bytes : T → Option (List ℕ)} {counts : T → ℕ} {out_last : T → Bool} {name : List ℕ} where
  -- CHAIN ends the command
  pub chain_stops : (Next : List HandedLine → End → List ℕ → Type 0) (s t : S) (o : T) (e : End) → HasStoppedLines files readings faults last name StopsLines s t e → Obeys files readings faults last bytes counts out_last (name ∷ []) [] (λ f. ChainStage (lines_in (f name)) Next) s t o o e
  chain_stops Next s t o e h = record {
    ends = λ f told. nothing_put [] _ (begins_nothing _) e (bytes o) (bytes o) (never_writes (faults s) (faults t) (last t) e h.cause) refl (λ w. stops_chain (lines_in (f name)) Next e (h.stops f told w));
    cause = cause_of_reading (faults s) (faults t) (last t) (counts o) (out_last o) e h.cause;
    same = h.same;
    in_turn = (readings t, h.once, none_read [] (readings t));
    later = h.later;
    put_later = omega arith;
  }

  -- what is said of its lines is written
  pub chain_says : (v : ViewedRunValue) → IsSafeView v.viewed → IsTableOf (grammar_in v) v.run → (s t : S) (o p : T) (e : End) (text : List ℕ) → HasReadLines files readings faults name (TellsChecked v) s t text → Writes bytes counts out_last [] (IsWritten text) o p e →
      Obeys files readings faults last bytes counts out_last (name ∷ []) [] (λ f. ChainStage (lines_in (f name)) (IsSaidOf (grammar_in v) (view_in v) (events_in v))) s t o p e
  chain_says v safe run s t o p e text r w = record {
    ends = λ f told.
        let is = r.told f told in
        ends_alike [] (IsWritten text) (ChainStage (lines_in (f name)) (IsSaidOf (grammar_in v) (view_in v) (events_in v))) (written_is v safe run (lines_in (f name)) text is) (is_written v safe run (lines_in (f name)) text is) e (bytes o) (bytes p) w.ends;
    cause = subst (λ n. IsCause n (faults t) (last t) (counts o) (counts p) (out_last p) e) r.count (cause_of_writing (faults t) (last t) (counts o) (counts p) (out_last p) e w.cause);
    same = r.same;
    in_turn = (readings t, r.once, none_read [] (readings t));
    later = let count = r.count in omega arith;
    put_later = w.later;
  }
