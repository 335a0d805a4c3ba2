-- How a command ends whose last part takes the lines of a file.
use Rattle.std.proofs.Common.{◌≡◌, ℕ, List, [], ◌++◌, length, Option, Some, sym, ap, ◌∙◌, subst, inl, inr, arith, length-append, append_assoc, append-nil}
use Rattle.wf_io.specs.Lines.{FileLines}
use Rattle.wf_lines.specs.LineStages.{LineEnds, AllTaken, OfTail, OfLines, IsOneWay, IsClosedOneWay, ClosesOrGoesOn}
use Rattle.wf_lines.specs.Taking.{AreTaken, AreStopped}
use Rattle.wf_lines.proofs.LineStages.{lines_on, lines_begin, sound_on, closes_as}
use Rattle.wf_lines.proofs.SoFar.{begun_of, all_begun}
use Rattle.wf_message.specs.Endings.{End, WriteFault}
use Rattle.wf_stage.specs.Ends.{EndsBehind, IsOfOutcome}

module _ {S : Type 0} (ends : LineEnds End) (Takes : S → ℕ → List ℕ → S → List ℕ → Type 0) (Stops : S → ℕ → List ℕ → End → List ℕ → Type 0) (Finishes : S → List ℕ → Type 0) (StopsAtEnd : S → End → List ℕ → Type 0) (Closes : S → End → List ℕ → Type 0)
    (first : List ℕ) (Outcome : End → List ℕ → Type 0) (s : S) (file : FileLines)
    (forth : (e : End) (t : List ℕ) → OfLines ends Takes Stops Closes s file.lines file.tail e t → Outcome e (first ++ t))
    (back : (e : End) (t : List ℕ) → Outcome e t → (made : List ℕ) × (t ≡ first ++ made) × OfLines ends Takes Stops Closes s file.lines file.tail e made)
    (goes : (q : S) (e : End) (t : List ℕ) → Closes q e t → ClosesOrGoesOn Finishes StopsAtEnd q e t) where
  -- lines that were stopped end the command
  pub stopped_ends : ((q : S) (e : End) (t : List ℕ) → StopsAtEnd q e t → Closes q e t) → (end : Option End) (e : End) (Failed : Type 0) (old new : Option (List ℕ)) → (IsOfOutcome e → end ≡ Some e) → (e ≡ WriteFault → Failed) →
      AreStopped (OfLines ends Takes Stops StopsAtEnd s file.lines file.tail) (OfLines ends Takes Stops (ClosesOrGoesOn Finishes StopsAtEnd) s file.lines file.tail) end Failed old new → EndsBehind first Outcome e old new
  stopped_ends closes end e Failed old new is failed stopped = record {
    whole = λ w.
        let r = stopped.whole e (is w) in
        (r.0, forth e r.0 (closes_as ends Takes Stops StopsAtEnd Closes closes file.tail file.lines s e r.0 r.1), r.2);
    begun = λ d t outcome.
        let b = back d t outcome in
        (b.0, b.1, stopped.begun d b.0 (closes_as ends Takes Stops Closes (ClosesOrGoesOn Finishes StopsAtEnd) goes file.tail file.lines s d b.0 b.2));
    due = λ w d t outcome.
        let b = back d t outcome in
        let some = stopped.some (failed w) d b.0 (closes_as ends Takes Stops Closes (ClosesOrGoesOn Finishes StopsAtEnd) goes file.tail file.lines s d b.0 b.2) in
        let size = ap (length {A = ℕ}) b.1 ∙ length-append first b.0 in
        omega (arith, some, size);
  }

  module _ (IsSound : S → Type 0) (one : IsOneWay IsSound Takes Stops) (closed : IsClosedOneWay IsSound Finishes StopsAtEnd) (ok : IsSound s) where
    -- lines that were all taken end the command as the end of their file is closed
    pub taken_ends : {IsAt : S → Type 0} → (e : End) → (e ≡ WriteFault → ⊥) → ((q : S) (last : List ℕ) → Finishes q last → Closes q e last) → (old new : Option (List ℕ)) → AreTaken (AllTaken ends Takes Stops s file.lines) Finishes IsAt file.tail old new → EndsBehind first Outcome e old new
    taken_ends e never closes old new taken = record {
      whole = λ w. (taken.text ++ taken.last, forth e (taken.text ++ taken.last) all, taken.put);
      begun = λ d t outcome.
          let b = back d t outcome in
          let here : OfLines ends Takes Stops Closes s (file.lines ++ []) file.tail d b.0 = subst (λ ls. OfLines ends Takes Stops Closes s ls file.tail d b.0) (sym (append-nil file.lines)) b.2 in
          let r = lines_begin ends Takes Stops IsSound one Closes file.tail file.lines [] s taken.state taken.text ok taken.taken d b.0 here in
          let m = last_begins d r.0 (goes taken.state d r.0 (subst (λ z. OfTail ends Takes Stops Closes taken.state z d r.0) taken.whole r.2)) in
          let is : b.0 ≡ (taken.text ++ taken.last) ++ m.0 = r.1 ∙ (ap (λ x. taken.text ++ x) m.1 ∙ sym (append_assoc taken.text taken.last m.0)) in
          (b.0, b.1, begun_of (taken.text ++ taken.last) b.0 m.0 old new is (all_begun (taken.text ++ taken.last) old new taken.put));
      due = λ w. absurd (never w);
    }
      where
        all : OfLines ends Takes Stops Closes s file.lines file.tail e (taken.text ++ taken.last)
        all =
            let end : OfLines ends Takes Stops Closes taken.state [] file.tail e taken.last = subst (λ z. OfTail ends Takes Stops Closes taken.state z e taken.last) (sym taken.whole) (closes taken.state taken.last taken.finished) in
            subst (λ ls. OfLines ends Takes Stops Closes s ls file.tail e (taken.text ++ taken.last)) (append-nil file.lines) (lines_on ends Takes Stops Closes file.tail file.lines [] s taken.state taken.text taken.taken e taken.last end)

        last_begins : (d : End) (t : List ℕ) → ClosesOrGoesOn Finishes StopsAtEnd taken.state d t → (more : List ℕ) × (t ≡ taken.last ++ more)
        last_begins d t (inl stops) = absurd (closed.apart taken.state taken.last d t (sound_on ends Takes Stops IsSound one file.lines s taken.state taken.text ok taken.taken) taken.finished stops)
        last_begins d t (inr other) = (other.1, other.3 ∙ ap (λ x. x ++ other.1) (closed.finished taken.state other.0 taken.last (sound_on ends Takes Stops IsSound one file.lines s taken.state taken.text ok taken.taken) other.2 taken.finished))
