-- What is written, and what of it is written in its place.
use Rattle.std.proofs.Common.{◌≡◌, ◌<◌, ◌≤◌, ℕ, Bool, List, [], ◌++◌, length, take, Option, refl, sym, subst, arith}
use Rattle.std.specs.Prelude.{Result, Err}
use Rattle.wf_io.specs.Told.{Rose, Appended}
use Rattle.wf_io.proofs.Appending.{appended_none}
use Rattle.wf_message.specs.declared.ending.Stop.{Stop}
use Rattle.wf_message.specs.Endings.{End, Done, WriteFault, NoMemory, end_of, end_after}
use Rattle.wf_stage.specs.Ends.{IsWritten}
use Rattle.wf_stage.specs.Causes.{IsWritingCause}
use Rattle.wf_stage.specs.Promises.{Writes}
use Rattle.wf_stage.proofs.Ends.{Begins, wanting, ends_alike, whole_written, part_written, piece_ends, put_by_end, passed_on}

module _ {T : Type 0} {bytes : T → Option (List ℕ)} {faults : T → ℕ} {last : T → Bool} where
  -- want of memory, with nothing put
  pub writes_wanting : (first : List ℕ) (R : End → List ℕ → Type 0) → Begins first R → (o : T) → Writes bytes faults last first R o o NoMemory
  writes_wanting first R begins o = record { ends = wanting first R begins (bytes o) (bytes o) refl; cause = refl; later = omega arith }

  -- nothing is written
  pub writes_nothing : (text : List ℕ) → text ≡ [] → (o : T) → Writes bytes faults last [] (IsWritten text) o o Done
  writes_nothing text empty o = record { ends = whole_written text (bytes o) (bytes o) (subst (λ t. Appended t (bytes o) (bytes o)) (sym empty) (appended_none (bytes o) (bytes o) refl)); cause = refl; later = omega arith }

  -- a text was put whole
  pub writes_whole : (text : List ℕ) (o p : T) → Appended text (bytes o) (bytes p) → faults p ≡ faults o → Writes bytes faults last [] (IsWritten text) o p Done
  writes_whole text o p put count = record { ends = whole_written text (bytes o) (bytes p) put; cause = count; later = omega arith }

  -- a text was put in part
  pub writes_part : (text : List ℕ) (o p : T) → 0 < length text → (k : ℕ) × Appended (take k text) (bytes o) (bytes p) → Rose (faults o) (faults p) (last p) → faults o ≤ faults p → Writes bytes faults last [] (IsWritten text) o p WriteFault
  writes_part text o p some part rose later = record { ends = part_written text text (bytes o) (bytes p) refl some part; cause = rose; later = later }

  -- what is written is this text
  pub writes_text : (held text : List ℕ) → held ≡ text → (o p : T) (e : End) → Writes bytes faults last [] (IsWritten held) o p e → Writes bytes faults last [] (IsWritten text) o p e
  writes_text held text is o p e = subst (λ t. Writes bytes faults last [] (IsWritten t) o p e) is

  -- relations that hold of the same ends and texts
  pub writes_alike : (first : List ℕ) (R S : End → List ℕ → Type 0) → ((e : End) (t : List ℕ) → R e t → S e t) → ((e : End) (t : List ℕ) → S e t → R e t) → (o p : T) (e : End) → Writes bytes faults last first R o p e → Writes bytes faults last first S o p e
  writes_alike first R S to from o p e w = record { ends = ends_alike first R S to from e (bytes o) (bytes p) w.ends; cause = w.cause; later = w.later }

  -- a part of a text was put, and the next piece ended the program
  pub writes_piece : (done piece rest : List ℕ) (o p q : T) (e : End) → Appended done (bytes o) (bytes p) → faults p ≡ faults o → (e ≡ Done → ⊥) → Writes bytes faults last [] (IsWritten piece) p q e → Writes bytes faults last [] (IsWritten (done ++ (piece ++ rest))) o q e
  writes_piece done piece rest o p q e put count stopped w = record {
    ends = piece_ends done piece rest e (bytes o) (bytes p) (bytes q) put w.ends stopped;
    cause = subst (λ n. IsWritingCause n (faults q) (last q) e) count w.cause;
    later = subst (λ n. n ≤ faults q) count w.later;
  }

  -- what was written to its end was put whole
  pub wrote : (text : List ℕ) (o p : T) → Writes bytes faults last [] (IsWritten text) o p Done → Appended text (bytes o) (bytes p) × (faults p ≡ faults o)
  wrote text o p w = (put_by_end text (bytes o) (bytes p) w.ends, w.cause)

  -- an end that is passed on
  pub writes_passed : {A : Type 0} (first : List ℕ) (R : End → List ℕ → Type 0) (o p : T) (r : Result A Stop) (d : Stop) → (y : Stop) × (r ≡ Err y) × (y ≡ d) → Writes bytes faults last first R o p (end_of d) → Writes bytes faults last first R o p (end_after r)
  writes_passed first R o p r d = passed_on (Writes bytes faults last first R o p) r d
