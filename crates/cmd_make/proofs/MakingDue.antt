-- Text that is made due piece by piece.
use Rattle.std.proofs.Common.{◌≡◌, ◌<◌, ◌≤◌, ℕ, Bool, List, [], ◌++◌, length, take, Option, refl, sym, ap, ◌∙◌, subst, arith, length-append, append_assoc}
use Rattle.std.proofs.lemmas.List.{take_all}
use Rattle.wf_io.specs.Told.{Rose, Appended}
use Rattle.wf_io.proofs.Appending.{appended_none, begun_longer, begun_same}
use Rattle.wf_lines.specs.Taking.{IsDue, IsBegun}
use Rattle.wf_lines.proofs.Dues.{due_begun, due_put, due_later, due_more, due_some}
use Rattle.wf_message.specs.Endings.{End, Done, WriteFault, NoMemory}
use Rattle.wf_stage.specs.Ends.{IsWritten}
use Rattle.wf_stage.specs.Causes.{IsWritingCause}
use Rattle.wf_stage.specs.Promises.{Writes}
use Rattle.cmd_make.specs.Putting.{MakesDue}

-- of a text that is due a beginning was put
due_has_begun : (text due : List ℕ) (old new : Option (List ℕ)) → IsDue text due old new → IsBegun text old new
due_has_begun text due old new is =
    let all : take (length is.done) is.done ≡ is.done = take_all (length is.done) is.done (omega arith) in
    begun_same (is.done ++ due) text old new (sym is.split)
    (begun_longer (length is.done) is.done due old new (subst (λ t. Appended t old new) (sym all) is.put))

-- a text was due, and a piece is due behind it
pub due_piece : (due text piece a b : List ℕ) (o p q : Option (List ℕ)) → IsDue (due ++ text) a o p → IsDue (a ++ piece) b p q → IsDue (due ++ (text ++ piece)) b o q
due_piece due text piece a b o p q first then =
    subst (λ t. IsDue t b o q) (append_assoc due text piece)
    (due_later ((due ++ text) ++ piece) (a ++ piece) b o p q (due_more (due ++ text) a piece o p first) then)

module _ {T : Type 0} {bytes : T → Option (List ℕ)} {faults : T → ℕ} {last : T → Bool} where
  -- memory was wanting, and nothing was put
  pub makes_wanting : (due text due' : List ℕ) (o : T) → MakesDue bytes faults last due text due' o o NoMemory
  makes_wanting due text due' o = record {
    made = λ w. absurd (w.1 refl);
    begun = (0, appended_none (bytes o) (bytes o) refl);
    some = λ w. absurd (cc);
    short = λ d. absurd (cc);
    cause = refl;
    later = omega arith;
  }

  -- a text was made due
  pub makes_text : (due text due' : List ℕ) (o p : T) → IsDue (due ++ text) due' (bytes o) (bytes p) → faults p ≡ faults o → (length due < 65536 → length due' < 65536) → MakesDue bytes faults last due text due' o p Done
  makes_text due text due' o p is count short = record {
    made = λ w. (refl, is);
    begun = due_has_begun (due ++ text) due' (bytes o) (bytes p) is;
    some = λ w. absurd (cc);
    short = λ d. short;
    cause = count;
    later = omega arith;
  }

  -- writing failed
  pub makes_cut : (due text held due' : List ℕ) (o p : T) → held ≡ due ++ text → 0 < length held → IsBegun held (bytes o) (bytes p) → Rose (faults o) (faults p) (last p) → faults o ≤ faults p → MakesDue bytes faults last due text due' o p WriteFault
  makes_cut due text held due' o p is some begun rose later = record {
    made = λ w. absurd (w.0 refl);
    begun = begun_same held (due ++ text) (bytes o) (bytes p) is begun;
    some = λ w. subst (λ t. 0 < length t) is some;
    short = λ d. absurd (cc);
    cause = rose;
    later = later;
  }

  -- a text was due, and a piece behind it ended the program, in whatever text it stands
  pub piece_ends : (due text piece rest a b : List ℕ) (o p q : T) (e : End) → IsDue (due ++ text) a (bytes o) (bytes p) → faults p ≡ faults o → (e ≡ Done → ⊥) → MakesDue bytes faults last a piece b p q e
      → MakesDue bytes faults last due (text ++ (piece ++ rest)) b o q e
  piece_ends due text piece rest a b o p q e first count stopped then = record {
    made = λ w. absurd (stopped (then.made w).0);
    begun =
        let begun = due_begun ((due ++ text) ++ piece) (a ++ piece) (bytes o) (bytes p) (bytes q) (due_more (due ++ text) a piece (bytes o) (bytes p) first) then.begun in
        begun_same (((due ++ text) ++ piece) ++ rest) (due ++ (text ++ (piece ++ rest))) (bytes o) (bytes q)
        (append_assoc (due ++ text) piece rest ∙ append_assoc due text (piece ++ rest))
        (begun_longer begun.0 ((due ++ text) ++ piece) rest (bytes o) (bytes q) begun.1);
    some = λ w.
        let more = due_some ((due ++ text) ++ piece) (a ++ piece) (bytes o) (bytes p) (due_more (due ++ text) a piece (bytes o) (bytes p) first) (then.some w) in
        let size = length-append ((due ++ text) ++ piece) rest in
        subst (λ t. 0 < length t) (append_assoc (due ++ text) piece rest ∙ append_assoc due text (piece ++ rest)) (omega (arith, more, size));
    short = λ d. absurd (stopped d);
    cause = subst (λ n. IsWritingCause n (faults q) (last q) e) count then.cause;
    later = subst (λ n. n ≤ faults q) count then.later;
  }

  -- a text that a step made due
  pub made_due : (due text due' : List ℕ) (o p : T) → MakesDue bytes faults last due text due' o p Done → IsDue (due ++ text) due' (bytes o) (bytes p) × (faults p ≡ faults o) × (length due < 65536 → length due' < 65536)
  made_due due text due' o p m = ((m.made (λ e. (cc), λ e. (cc))).1, m.cause, m.short refl)

  -- a text was made due behind nothing, and then put
  pub put_whole : (text due : List ℕ) (o p q : T) (e : End) → IsDue text due (bytes o) (bytes p) → faults p ≡ faults o → Writes bytes faults last [] (IsWritten due) p q e → Writes bytes faults last [] (IsWritten text) o q e
  put_whole text due o p q e is count w = record {
    ends = record {
      whole = λ of_outcome. let r = w.ends.whole of_outcome in (text, (r.1.0, refl), due_put text due (bytes o) (bytes p) (bytes q) is (subst (λ t. Appended t (bytes p) (bytes q)) r.1.1 r.2));
      begun = λ d t h.
          let r = w.ends.begun Done due (refl, refl) in
          let begun = due_begun text due (bytes o) (bytes p) (bytes q) is (r.2.0, subst (λ x. Appended (take r.2.0 x) (bytes p) (bytes q)) (sym r.1) r.2.1) in
          (t, refl, begun_same text t (bytes o) (bytes q) (sym h.1) begun);
      due = λ failed d t h. subst (λ x. 0 < length x) (sym h.1) (due_some text due (bytes o) (bytes p) is (w.ends.due failed Done due (refl, refl)));
    };
    cause = subst (λ n. IsWritingCause n (faults q) (last q) e) count w.cause;
    later = subst (λ n. n ≤ faults q) count w.later;
  }

  -- the making of a text ended the program
  pub put_begun : (text due : List ℕ) (o p : T) (e : End) → (e ≡ Done → ⊥) → MakesDue bytes faults last [] text due o p e → Writes bytes faults last [] (IsWritten text) o p e
  put_begun text due o p e stopped m = record {
    ends = record {
      whole = λ of_outcome. absurd (stopped (m.made of_outcome).0);
      begun = λ d t h. (t, refl, begun_same text t (bytes o) (bytes p) (sym h.1) m.begun);
      due = λ failed d t h. subst (λ x. 0 < length x) (sym h.1) (m.some failed);
    };
    cause = m.cause;
    later = m.later;
  }

  -- a text was put in part, and memory was wanting
  pub writes_begun : (text : List ℕ) (o p : T) → IsBegun text (bytes o) (bytes p) → faults p ≡ faults o → Writes bytes faults last [] (IsWritten text) o p NoMemory
  writes_begun text o p begun count = record {
    ends = record { whole = λ of_outcome. absurd (of_outcome.1 refl); begun = λ d t h. (t, refl, begun_same text t (bytes o) (bytes p) (sym h.1) begun); due = λ failed. absurd (cc) };
    cause = count;
    later = omega (arith, count);
  }
