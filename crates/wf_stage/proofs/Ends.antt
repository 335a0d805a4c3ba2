-- How a call ends behind a text that was put first.
use Rattle.std.proofs.Common.{◌≡◌, ◌<◌, ℕ, List, [], ◌++◌, length, take, Option, refl, sym, ap, ◌∙◌, subst, arith, length-append, append_assoc, append-nil}
use Rattle.std.specs.Prelude.{Result, Err}
use Rattle.std.proofs.lemmas.List.{take_all}
use Rattle.wf_io.specs.Told.{Appended}
use Rattle.wf_message.specs.declared.ending.Stop.{Stop}
use Rattle.wf_message.specs.Endings.{End, Done, WriteFault, NoMemory, end_of, end_after}
use Rattle.wf_stage.specs.Ends.{EndsBehind, IsOfOutcome, IsWritten}
use Rattle.wf_io.proofs.Appending.{appended_none, appended_twice, begun_none, begun_longer, begun_after}

-- each related text begins with this one
abbrev pub Begins : List ℕ → (End → List ℕ → Type 0) → Type 0
Begins first R = (e : End) (t : List ℕ) → R e t → (rest : List ℕ) × (t ≡ first ++ rest)

-- each text begins with nothing
pub begins_nothing : (R : End → List ℕ → Type 0) → Begins [] R
begins_nothing R e t h = (t, refl)

module _ (first : List ℕ) (R : End → List ℕ → Type 0) (begins : Begins first R) where
  -- an end with nothing put, of which it is told when it is the outcome's
  pub nothing_put : (e : End) (old new : Option (List ℕ)) → (e ≡ WriteFault → ⊥) → new ≡ old → (IsOfOutcome e → R e first) → EndsBehind first R e old new
  nothing_put e old new never s h = record {
    whole = λ w. ([], subst (R e) (sym (append-nil first)) (h w), appended_none old new s);
    begun = λ d t r. let b = begins d t r in (b.0, b.1, begun_none b.0 old new s);
    due = λ w. absurd (never w);
  }

  -- want of memory, with nothing put
  pub wanting : (old new : Option (List ℕ)) → new ≡ old → EndsBehind first R NoMemory old new
  wanting old new s = nothing_put NoMemory old new (λ w. (cc)) s (λ w. absurd (w.1 refl))

module _ (first : List ℕ) (R : End → List ℕ → Type 0) where
  -- an end that is another
  pub ends_as : (e d : End) (old new : Option (List ℕ)) → e ≡ d → EndsBehind first R d old new → EndsBehind first R e old new
  ends_as e d old new p = subst (λ x. EndsBehind first R x old new) (sym p)

  -- the text was put whole, and the rest ended so
  pub put_first : (d : End) (a b c : Option (List ℕ)) → Appended first a b → EndsBehind first R d b c → EndsBehind [] R d a c
  put_first d a b c put ends = record {
    whole = λ w. let r = ends.whole w in (first ++ r.0, r.1, appended_twice first r.0 a b c put r.2);
    begun = λ e t h.
        let r = ends.begun e t h in
        let k = begun_after first r.0 r.2.0 a b c put r.2.1 in (t, refl, (k.0, subst (λ x. Appended (take k.0 x) a c) (sym r.1) k.1));
    due = λ w e t h. let more = ends.due w e t h in omega (arith, more);
  }

  -- the putting of the text ended the program
  pub first_ends : Begins first R → (d : End) (a b : Option (List ℕ)) → (d ≡ Done → ⊥) → EndsBehind [] (IsWritten first) d a b → EndsBehind [] R d a b
  first_ends begins d a b stopped ends = record {
    whole = λ w. absurd (stopped (ends.whole w).1.0);
    begun = λ e t h.
        let s = begins e t h in
        let p = ends.begun Done first (refl, refl) in
        let q = subst (λ x. Appended (take p.2.0 x) a b) (sym p.1) p.2.1 in
        let k = begun_longer p.2.0 first s.0 a b q in (t, refl, (k.0, subst (λ x. Appended (take k.0 x) a b) (sym s.1) k.1));
    due = λ w e t h.
        let s = begins e t h in
        let some = ends.due w Done first (refl, refl) in
        let size = ap (length {A = ℕ}) s.1 ∙ length-append first s.0 in
        omega (arith, some, size);
  }

-- relations that hold of the same ends and texts
pub ends_alike : (first : List ℕ) (R S : End → List ℕ → Type 0) → ((e : End) (t : List ℕ) → R e t → S e t) → ((e : End) (t : List ℕ) → S e t → R e t) → (d : End) (old new : Option (List ℕ)) → EndsBehind first R d old new → EndsBehind first S d old new
ends_alike first R S to from d old new ends = record {
  whole = λ w. let r = ends.whole w in (r.0, to d (first ++ r.0) r.1, r.2);
  begun = λ e t h. ends.begun e t (from e t h);
  due = λ w e t h. ends.due w e t (from e t h);
}

-- a text was put whole
pub whole_written : (text : List ℕ) (old new : Option (List ℕ)) → Appended text old new → EndsBehind [] (IsWritten text) Done old new
whole_written text old new put = record {
  whole = λ w. (text, (refl, refl), put);
  begun = λ e t h. (t, refl, (length text, subst (λ x. Appended x old new) (sym (ap (take (length text)) h.1 ∙ take_all (length text) text (omega arith))) put));
  due = λ w. absurd (cc);
}

-- a text was put in part
pub part_written : (text held : List ℕ) (old new : Option (List ℕ)) → held ≡ text → 0 < length held → (k : ℕ) × Appended (take k held) old new → EndsBehind [] (IsWritten text) WriteFault old new
part_written text held old new is some p = record {
  whole = λ w. absurd (w.0 refl);
  begun = λ e t h. (t, refl, (p.0, subst (λ x. Appended (take p.0 x) old new) (is ∙ sym h.1) p.1));
  due = λ w e t h. subst (λ x. 0 < length x) (is ∙ sym h.1) some;
}

-- what is written to its end is put whole
pub put_by_end : (text : List ℕ) (old new : Option (List ℕ)) → EndsBehind [] (IsWritten text) Done old new → Appended text old new
put_by_end text old new ends = let r = ends.whole (λ e. (cc), λ e. (cc)) in subst (λ x. Appended x old new) r.1.1 r.2

-- a part of a text was put, and the next piece ended the program
pub piece_ends : (done piece rest : List ℕ) (d : End) (a b c : Option (List ℕ)) → Appended done a b → EndsBehind [] (IsWritten piece) d b c → (d ≡ Done → ⊥) → EndsBehind [] (IsWritten (done ++ (piece ++ rest))) d a c
piece_ends done piece rest d a b c put ends stopped =
    let first = ends.begun Done piece (refl, refl) in
    let started = subst (λ x. Appended (take first.2.0 x) b c) (sym first.1) first.2.1 in
    let more = begun_after done piece first.2.0 a b c put started in
    let begun = begun_longer more.0 (done ++ piece) rest a c more.1 in
    record {
      whole = λ w. absurd (stopped (ends.whole w).1.0);
      begun = λ e t h. (t, refl, (begun.0, subst (λ x. Appended (take begun.0 x) a c) (append_assoc done piece rest ∙ sym h.1) begun.1));
      due = λ w e t h.
          let some = ends.due w Done piece (refl, refl) in
          let size = ap (length {A = ℕ}) h.1 ∙ length-append done (piece ++ rest) in
          let inner = length-append piece rest in
          omega (arith, some, size, inner);
    }

-- an ending that is passed on as it is has all that is said of it
pub passed_on : {T : Type 0} (P : End → Type 0) (r : Result T Stop) (d : Stop) → (y : Stop) × (r ≡ Err y) × (y ≡ d) → P (end_of d) → P (end_after r)
passed_on P r d p h = subst (λ s. P (end_after s)) (sym p.1) (subst (λ y. P (end_of y)) (sym p.2) h)
