-- How the parts of a command make what the command promises.
use Rattle.std.proofs.Common.{◌≡◌, ℕ, Bool, List, [], ◌∷◌, Option, refl, ◌∙◌, subst, inl, arith}
use Rattle.std.specs.Prelude.{Result, Err}
use Rattle.wf_io.specs.Told.{File}
use Rattle.wf_io.specs.Readings.{Reading, AreReadInTurn}
use Rattle.wf_message.specs.declared.ending.Stop.{Stop}
use Rattle.wf_message.specs.declared.ending.Stop.TheVariants.{Refused as StopsRefused, ReadFault as StopsReading, WriteFault as StopsWriting, NoMemory as StopsWanting}
use Rattle.wf_message.specs.Endings.{End, Done, Usage, Refused, ReadFault, WriteFault, NoMemory, end_of, end_after}
use Rattle.wf_stage.specs.Kinds.{Kind}
use Rattle.wf_stage.specs.Stages.{Stage}
use Rattle.wf_stage.specs.Ends.{IsWritten}
use Rattle.wf_stage.specs.Causes.{IsCause, IsReadingCause, IsWritingCause}
use Rattle.wf_stage.specs.Promises.{HasRead, HasStopped, Writes, Obeys}
use Rattle.wf_stage.proofs.Ends.{Begins, wanting, put_first, first_ends, put_by_end, passed_on}
use Rattle.wf_stage.proofs.Stages.{stop_ends, on_ends}

-- the cause of reading is a cause where out is as it was
pub cause_of_reading : (before after : ℕ) (last : Bool) (out : ℕ) (out_last : Bool) (e : End) → IsReadingCause before after last e → IsCause before after last out out out_last e
cause_of_reading before after last out out_last Done h = absurd h
cause_of_reading before after last out out_last Usage h = absurd h
cause_of_reading before after last out out_last (Refused word line fault) h = (h, refl)
cause_of_reading before after last out out_last (ReadFault word) h = (h, refl)
cause_of_reading before after last out out_last WriteFault h = absurd h
cause_of_reading before after last out out_last NoMemory h = (h, refl)

-- the cause of writing is a cause where the shelf is as it was
pub cause_of_writing : (shelf : ℕ) (last : Bool) (before after : ℕ) (out_last : Bool) (e : End) → IsWritingCause before after out_last e → IsCause shelf shelf last before after out_last e
cause_of_writing shelf last before after out_last Done h = (refl, h)
cause_of_writing shelf last before after out_last Usage h = absurd h
cause_of_writing shelf last before after out_last (Refused word line fault) h = (refl, h)
cause_of_writing shelf last before after out_last (ReadFault word) h = absurd h
cause_of_writing shelf last before after out_last WriteFault h = (refl, h)
cause_of_writing shelf last before after out_last NoMemory h = (refl, h)

-- what reads does not fail to write
pub never_writes : (before after : ℕ) (last : Bool) (e : End) → IsReadingCause before after last e → e ≡ WriteFault → ⊥
never_writes before after last e h is = subst (IsReadingCause before after last) is h

-- a stop is not that all is done
pub stop_is_not_done : (stop : Stop) → end_of stop ≡ Done → ⊥
stop_is_not_done (StopsRefused place line refusal) p = absurd (cc)
stop_is_not_done (StopsReading place) p = absurd (cc)
stop_is_not_done StopsWriting p = absurd (cc)
stop_is_not_done StopsWanting p = absurd (cc)

-- none of the files is read
pub none_read : (names : List (List ℕ)) (now : Option (List Reading)) → AreReadInTurn names now now
none_read [] now = refl
none_read (name ∷ names) now = (now, inl refl, none_read names now)

module _ {S T : Type 0} {files : S → Option (List ℕ → File)} {readings : S → Option (List Reading)} {faults : S → ℕ} {last : S → Bool} {bytes : T → Option (List ℕ)} {counts : T → ℕ} {out_last : T → Bool} {names : List (List ℕ)} where
  -- an end that is passed on
  pub obeys_passed : {A : Type 0} (first : List ℕ) (R : (List ℕ → File) → End → List ℕ → Type 0) (s t : S) (o p : T) (r : Result A Stop) (d : Stop) → (y : Stop) × (r ≡ Err y) × (y ≡ d) → Obeys files readings faults last bytes counts out_last names first R s t o p (end_of d) → Obeys files readings faults last bytes counts out_last names first R s t o p (end_after r)
  obeys_passed first R s t o p r d = passed_on (Obeys files readings faults last bytes counts out_last names first R s t o p) r d

  -- want of memory, with nothing done
  pub obeys_wanting : (first : List ℕ) (R : (List ℕ → File) → End → List ℕ → Type 0) → ((f : List ℕ → File) → Begins first (R f)) → (s : S) (o : T) → Obeys files readings faults last bytes counts out_last names first R s s o o NoMemory
  obeys_wanting first R begins s o = record {
    ends = λ f told. wanting first (R f) (begins f) (bytes o) (bytes o) refl;
    cause = (refl, refl);
    same = refl;
    in_turn = none_read names (readings s);
    later = omega arith;
    put_later = omega arith;
  }

  -- what writes obeys, where the shelf is left alone
  pub obeys_writing : (first : List ℕ) (R : End → List ℕ → Type 0) (s : S) (o p : T) (e : End) → Writes bytes counts out_last first R o p e → Obeys files readings faults last bytes counts out_last names first (λ f. R) s s o p e
  obeys_writing first R s o p e w = record {
    ends = λ f told. w.ends;
    cause = cause_of_writing (faults s) (last s) (counts o) (counts p) (out_last p) e w.cause;
    same = refl;
    in_turn = none_read names (readings s);
    later = omega arith;
    put_later = w.later;
  }

  module _ {A : Type 0} {kind : Kind} {name : List ℕ} {Tells : List ℕ → A → Type 0} {Refuses : List ℕ → Option ℕ → List ℕ → Type 0} (first : List ℕ) (Next : (List ℕ → File) → A → End → List ℕ → Type 0) where
    -- a stage that stops ends the command
    pub obeys_stop : ((f : List ℕ → File) (a : A) → Begins first (Next f a)) → (s t : S) (o : T) (e : End) → HasStopped files readings faults last kind name Refuses s t e → Obeys files readings faults last bytes counts out_last (name ∷ names) first (λ f. Stage kind first (f name) Tells Refuses (Next f)) s t o o e
    obeys_stop begins s t o e h = record {
      ends = λ f told. stop_ends kind first (f name) Tells Refuses (Next f) (bytes o) (bytes o) (begins f) e (h.stops f told) refl;
      cause = cause_of_reading (faults s) (faults t) (last t) (counts o) (out_last o) e h.cause;
      same = h.same;
      in_turn = (readings t, h.once, none_read names (readings t));
      later = h.later;
      put_later = omega arith;
    }

    -- a stage that has read its file goes on with what it tells
    pub obeys_on : ((b : List ℕ) (a c : A) → Tells b a → Tells b c → c ≡ a) → ((b : List ℕ) (a : A) (line : Option ℕ) (fault : List ℕ) → Tells b a → Refuses b line fault → ⊥) → (s t u : S) (o p : T) (e : End) (a : A) → HasRead files readings faults kind name Tells s t a → Obeys files readings faults last bytes counts out_last names first (λ f. Next f a) t u o p e → Obeys files readings faults last bytes counts out_last (name ∷ names) first (λ f. Stage kind first (f name) Tells Refuses (Next f)) s u o p e
    obeys_on one none s t u o p e a r h = record {
      ends = λ f told.
          let is = r.told f told in
          on_ends kind first (f name) Tells Refuses (Next f) (bytes o) (bytes p) a is (λ b x. one (f name).bytes a b is.tells x) (λ line fault x. none (f name).bytes a line fault is.tells x) e (h.ends f (r.same ∙ told));
      cause = subst (λ n. IsCause n (faults u) (last u) (counts o) (counts p) (out_last p) e) r.count h.cause;
      same = h.same ∙ r.same;
      in_turn = (readings t, r.once, h.in_turn);
      later = let count = r.count in let later = h.later in omega arith;
      put_later = h.put_later;
    }

  -- a text was put, and the rest obeys behind it
  pub obeys_put : (first : List ℕ) (R : (List ℕ → File) → End → List ℕ → Type 0) (s t : S) (o p q : T) (e : End) → Writes bytes counts out_last [] (IsWritten first) o p Done → Obeys files readings faults last bytes counts out_last names first R s t p q e → Obeys files readings faults last bytes counts out_last names [] R s t o q e
  obeys_put first R s t o p q e w h = record {
    ends = λ f told. put_first first (R f) e (bytes o) (bytes p) (bytes q) (put_by_end first (bytes o) (bytes p) w.ends) (h.ends f told);
    cause = subst (λ n. IsCause (faults s) (faults t) (last t) n (counts q) (out_last q) e) w.cause h.cause;
    same = h.same;
    in_turn = h.in_turn;
    later = h.later;
    put_later = let put = w.later in let later = h.put_later in omega arith;
  }

  -- the putting of a text ended the command, where all that it may put begins with this text
  pub obeys_put_stop : (first : List ℕ) (R : (List ℕ → File) → End → List ℕ → Type 0) → ((f : List ℕ → File) → Begins first (R f)) → (s : S) (o p : T) (e : End) → (e ≡ Done → ⊥) → Writes bytes counts out_last [] (IsWritten first) o p e → Obeys files readings faults last bytes counts out_last names [] R s s o p e
  obeys_put_stop first R begins s o p e stopped w = record {
    ends = λ f told. first_ends first (R f) (begins f) e (bytes o) (bytes p) stopped w.ends;
    cause = cause_of_writing (faults s) (last s) (counts o) (counts p) (out_last p) e w.cause;
    same = refl;
    in_turn = none_read names (readings s);
    later = omega arith;
    put_later = w.later;
  }
