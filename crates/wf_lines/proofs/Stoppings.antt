-- How the lines of a file stop, and how they are all taken, after those that are taken so far.
use Rattle.std.proofs.Common.{◌≡◌, ◌<◌, ℕ, List, [], ◌∷◌, ◌++◌, ◌⊎◌, length, Option, Some, None, refl, sym, ap, ◌∙◌, subst, inl, inr, arith, length-append, append_assoc, append-nil, true≢false}
use Rattle.wf_io.specs.Told.{Appended}
use Rattle.wf_io.specs.Lines.{Line, FileLines, Tail, AtEnd, text_of}
use Rattle.wf_io.specs.Readers.{Reader, Lends, Ends}
use Rattle.wf_lines.specs.LineStages.{LineEnds, StopsLine, AllTaken, OfLines, IsOneWay, IsClosedOneWay, ClosesOrGoesOn}
use Rattle.wf_lines.specs.Taking.{IsBegun, IsCut, Halts, IsPutAt, halt_end, end_at, IsStoppedBy, IsStoppedAtEnd, IsWritingFault, AreTaken, AreStopped}
use Rattle.wf_lines.specs.BegunLines.{BegunLine, begun_line, BeginsEach}
use Rattle.wf_lines.specs.declared.fault.Halt.{Halt}
use Rattle.wf_lines.specs.declared.fault.Halt.TheVariants.{LineTooLong, FileTooLong, ReadFault, WriteFault}
use Rattle.wf_lines.specs.declared.fault.LinesFault.{LinesFault}
use Rattle.wf_lines.specs.declared.fault.LinesFault.TheVariants.{Stopped, Halted}
use Rattle.std.proofs.lemmas.Option.{same_Some}
use Rattle.wf_lines.proofs.LineStages.{lines_on, sound_on, lines_begin, stopped_here}
use Rattle.wf_lines.proofs.Dues.{due_begun, due_put, due_more, due_some}
use Rattle.wf_lines.proofs.Makings.{told_or}
use Rattle.wf_lines.proofs.SoFar.{IsTakenSoFar, begun_of, all_begun}

none_some : {A : Type 0} {x : A} → None ≡ Some x → ⊥
none_some p = absurd (cc)

module _ {S E : Type 0} (ends : LineEnds E) (Takes : S → ℕ → List ℕ → S → List ℕ → Type 0) (Stops : S → ℕ → List ℕ → E → List ℕ → Type 0) (Finishes : S → List ℕ → Type 0) (StopsAtEnd : S → E → List ℕ → Type 0)
    (IsSound : S → Type 0) (one : IsOneWay IsSound Takes Stops) (closed : IsClosedOneWay IsSound Finishes StopsAtEnd) {IsAt : S → Type 0} (s : S) (ok : IsSound s) (all left : FileLines) (due : List ℕ) (old now new : Option (List ℕ))
    (far : IsTakenSoFar ends Takes Stops IsAt s all left due old now) where
  -- what lines make, and stop in
  abbrev Stopping : S → List Line → Tail → E → List ℕ → Type 0
  Stopping = OfLines ends Takes Stops StopsAtEnd

  -- what lines make, and may go on with
  abbrev Going : S → List Line → Tail → E → List ℕ → Type 0
  Going = OfLines ends Takes Stops (ClosesOrGoesOn Finishes StopsAtEnd)

  -- the lines so far leave a sound state
  sound : IsSound far.state
  sound = sound_on ends Takes Stops IsSound one far.lines s far.state far.text ok far.taken

  -- what lines make begins with what those so far made, and goes on with what is left
  behind_far : (e : E) (t : List ℕ) → Going s all.lines all.tail e t → (more : List ℕ) × (t ≡ far.text ++ more) × Going far.state left.lines left.tail e more
  behind_far e t going =
      let here : Going s (far.lines ++ left.lines) left.tail e t = subst (λ z. Going s (far.lines ++ left.lines) z e t) (sym far.tail) (subst (λ ls. Going s ls all.tail e t) far.split going) in
      lines_begin ends Takes Stops IsSound one (ClosesOrGoesOn Finishes StopsAtEnd) left.tail far.lines left.lines s far.state far.text ok far.taken e t here

  -- how what is left stops is how all stop
  from_here : (end : Option E) (Failed : Type 0) →
      ((e : E) → end ≡ Some e → (t : List ℕ) × Stopping far.state left.lines left.tail e t × Appended (far.text ++ t) old new) →
      ((e : E) (t : List ℕ) → Going far.state left.lines left.tail e t → IsBegun (far.text ++ t) old new) →
      (Failed → (e : E) (t : List ℕ) → Going far.state left.lines left.tail e t → 0 < length (far.text ++ t)) →
      AreStopped (Stopping s all.lines all.tail) (Going s all.lines all.tail) end Failed old new
  from_here end Failed whole begun some = record {
    whole = λ e is.
        let r = whole e is in
        let stopping : Stopping s (far.lines ++ left.lines) left.tail e (far.text ++ r.0) = lines_on ends Takes Stops StopsAtEnd left.tail far.lines left.lines s far.state far.text far.taken e r.0 r.1 in
        (far.text ++ r.0, subst (λ z. Stopping s all.lines z e (far.text ++ r.0)) far.tail (subst (λ ls. Stopping s ls left.tail e (far.text ++ r.0)) (sym far.split) stopping), r.2);
    begun = λ e t going. let r = behind_far e t going in subst (λ x. IsBegun x old new) (sym r.1) (begun e r.0 r.2);
    some = λ failed e t going. let r = behind_far e t going in subst (λ x. 0 < length x) (sym r.1) (some failed e r.0 r.2);
  }

  -- something is due of the text so far, or behind it
  some_due : (t : List ℕ) → 0 < length due → 0 < length (far.text ++ t)
  some_due t some = let a = due_some far.text due old now far.due some in let e = length-append far.text t in omega (arith, a, e)

  some_behind : (piece t more : List ℕ) → t ≡ piece ++ more → 0 < length (due ++ piece) → 0 < length (far.text ++ t)
  some_behind piece t more is some =
      let a = due_some (far.text ++ piece) (due ++ piece) old now (due_more far.text due piece old now far.due) some in
      let e = ap (length {A = ℕ}) is ∙ length-append piece more in
      let x = length-append far.text t in
      let y = length-append far.text piece in
      omega (arith, a, e, x, y)

  -- all that is made so far was put
  all_put : Appended due now new → Appended far.text old new
  all_put put = due_put far.text due old now new far.due put

  -- and a text behind it
  put_behind : (piece : List ℕ) → Appended (due ++ piece) now new → Appended (far.text ++ piece) old new
  put_behind piece put = due_put (far.text ++ piece) (due ++ piece) old now new (due_more far.text due piece old now far.due) put

  begun_behind : (piece : List ℕ) → IsBegun (due ++ piece) now new → IsBegun (far.text ++ piece) old new
  begun_behind piece begun = due_begun (far.text ++ piece) (due ++ piece) old now new (due_more far.text due piece old now far.due) begun

  -- where all so far was put, this begins each text
  begins_each : Appended due now new → (t : List ℕ) → IsBegun (far.text ++ t) old new
  begins_each put t = begun_of far.text (far.text ++ t) t old new refl (all_begun far.text old new (all_put put))

  put_nothing_more : Appended due now new → Appended (far.text ++ []) old new
  put_nothing_more put = subst (λ x. Appended x old new) (sym (append-nil far.text)) (all_put put)

  -- what is left halts whatever takes it
  pub halt_stops : (h : Halt) → Halts left h → IsPutAt h due now new → AreStopped (Stopping s all.lines all.tail) (Going s all.lines all.tail) (halt_end ends h) (h ≡ WriteFault) old new
  halt_stops (LineTooLong n) why put =
      from_here (Some (ends.too_long n)) (LineTooLong n ≡ WriteFault)
      (λ e is. ([], subst (λ ls. Stopping far.state ls left.tail e []) (sym why.2) (inl (inl (why.3, sym (same_Some _ e is) ∙ ap ends.too_long why.4, refl))), put_nothing_more put))
      (λ e t going. begins_each put t)
      (λ failed. absurd (cc))
  halt_stops (FileTooLong n) why put =
      from_here (Some (ends.long_file n)) (FileTooLong n ≡ WriteFault)
      (λ e is. ([], subst (λ ls. Stopping far.state ls left.tail e []) (sym why.0) (subst (λ z. Stopping far.state [] z e []) (sym why.1) (sym (same_Some _ e is), refl)), put_nothing_more put))
      (λ e t going. begins_each put t)
      (λ failed. absurd (cc))
  halt_stops ReadFault why put =
      from_here (Some ends.broken) (ReadFault ≡ WriteFault)
      (λ e is. ([], subst (λ ls. Stopping far.state ls left.tail e []) (sym why.0) (subst (λ z. Stopping far.state [] z e []) (sym why.1) (sym (same_Some _ e is), refl)), put_nothing_more put))
      (λ e t going. begins_each put t)
      (λ failed. absurd (cc))
  halt_stops WriteFault why cut =
      from_here None (WriteFault ≡ WriteFault)
      (λ e is. absurd (none_some is))
      (λ e t going. begun_of far.text (far.text ++ t) t old new refl (due_begun far.text due old now new far.due cut.begun))
      (λ failed e t going. some_due t cut.some)

  module _ (r : Reader) (next : FileLines) (lends : Lends left r next) where
    -- the text of the next line stops the lines
    stopped_line : (e : E) (piece : List ℕ) → Stops far.state r.line r.held e piece → StopsLine ends Takes Stops far.state lends.first e piece
    stopped_line e piece stops = inr (lends.short, subst (λ n. Stops far.state n (text_of lends.first.raw) e piece) lends.number (subst (λ x. Stops far.state r.line x e piece) lends.text stops))

    -- so what is left makes what it makes
    made_here : (d : E) (piece : List ℕ) → Stops far.state r.line r.held d piece → (e : E) (t : List ℕ) → Going far.state left.lines left.tail e t → t ≡ piece
    made_here d piece stops e t going =
        sym (stopped_here ends Takes Stops IsSound one (ClosesOrGoesOn Finishes StopsAtEnd) left.tail lends.first next.lines far.state d piece sound (stopped_line d piece stops) e t (subst (λ ls. Going far.state ls left.tail e t) lends.left going)).1

    module _ (Begins : BegunLine S → Type 0) (begins : BeginsEach IsSound Takes Stops Begins) where
      -- what a line makes first begins what is left
      begun_begins : (piece : List ℕ) → Begins (begun_line far.state r.line r.held piece) → (e : E) (t : List ℕ) → Going far.state (lends.first ∷ next.lines) left.tail e t → (more : List ℕ) × (t ≡ piece ++ more)
      begun_begins piece begun e t (inl (inl long)) = absurd (true≢false (sym long.0 ∙ lends.short))
      begun_begins piece begun e t (inl (inr stopped)) =
          begins.stopped (begun_line far.state r.line r.held piece) e t sound begun (subst (λ n. Stops far.state n r.held e t) (sym lends.number) (subst (λ x. Stops far.state lends.first.number x e t) (sym lends.text) stopped.1))
      begun_begins piece begun e t (inr o) =
          let m = begins.taken (begun_line far.state r.line r.held piece) o.0 o.1 sound begun (subst (λ n. Takes far.state n r.held o.0 o.1) (sym lends.number) (subst (λ x. Takes far.state lends.first.number x o.0 o.1) (sym lends.text) o.3.1)) in
          (m.0 ++ o.2, o.5 ∙ (ap (λ x. x ++ o.2) m.1 ∙ append_assoc piece m.0 o.2))

      -- so does what it may have made
      made_begins : (piece : List ℕ) → (((d : E) × Stops far.state r.line r.held d piece) ⊎ Begins (begun_line far.state r.line r.held piece)) → (e : E) (t : List ℕ) → Going far.state left.lines left.tail e t → (more : List ℕ) × (t ≡ piece ++ more)
      made_begins piece (inl stopped) e t going = ([], made_here stopped.0 piece stopped.1 e t going ∙ sym (append-nil piece))
      made_begins piece (inr begun) e t going = begun_begins piece begun e t (subst (λ ls. Going far.state ls left.tail e t) lends.left going)

      -- a beginning of what it may have made was put
      begun_put : (piece : List ℕ) → (((d : E) × Stops far.state r.line r.held d piece) ⊎ Begins (begun_line far.state r.line r.held piece)) → IsBegun (due ++ piece) now new → (e : E) (t : List ℕ) → Going far.state left.lines left.tail e t → IsBegun (far.text ++ t) old new
      begun_put piece may begun e t going =
          let m = made_begins piece may e t going in
          begun_of (far.text ++ piece) (far.text ++ t) m.0 old new (ap (λ x. far.text ++ x) m.1 ∙ sym (append_assoc far.text piece m.0)) (begun_behind piece begun)

      -- the next line is not taken
      pub line_stops : {F : Type 0} (end_of : F → Option E) (f : LinesFault F) → IsStoppedBy (Stops far.state r.line r.held) (λ piece. Begins (begun_line far.state r.line r.held piece)) end_of due f now new → AreStopped (Stopping s all.lines all.tail) (Going s all.lines all.tail) (end_at ends end_of f) (IsWritingFault f) old new
      line_stops end_of (Stopped f) why = from_here (end_of f) ⊥
          (λ e is. (why.0, subst (λ ls. Stopping far.state ls left.tail e why.0) (sym lends.left) (inl (stopped_line e why.0 (why.1 e is))), put_behind why.0 why.3))
          (begun_put why.0 (told_or (λ d. Stops far.state r.line r.held d why.0) end_of f why.1 why.2) (all_begun (due ++ why.0) now new why.3))
          (λ failed. absurd failed)
      line_stops end_of (Halted h) why = subst (λ z. AreStopped (Stopping s all.lines all.tail) (Going s all.lines all.tail) (halt_end ends z) (z ≡ WriteFault) old new) (sym why.0) (from_here None (WriteFault ≡ WriteFault)
          (λ e is. absurd (none_some is))
          (begun_put why.1.0 why.1.1 why.1.2.begun)
          (λ failed e t going. let m = made_begins why.1.0 why.1.1 e t going in some_behind why.1.0 t m.0 m.1 why.1.2.some))

  module _ (at_end : Ends left AtEnd) where
    -- what is left is the end of a whole file
    closing : (e : E) (t : List ℕ) → Going far.state left.lines left.tail e t → ClosesOrGoesOn Finishes StopsAtEnd far.state e t
    closing e t going = subst (λ z. Going far.state [] z e t) at_end.1 (subst (λ ls. Going far.state ls left.tail e t) at_end.0 going)

    -- what the end stops in is all that it makes
    stopped_end : (d : E) (last : List ℕ) → StopsAtEnd far.state d last → (e : E) (t : List ℕ) → ClosesOrGoesOn Finishes StopsAtEnd far.state e t → t ≡ last
    stopped_end d last stops e t (inl other) = sym (closed.stopped far.state d e last t sound stops other).1
    stopped_end d last stops e t (inr other) = absurd (closed.apart far.state other.0 d last sound other.2 stops)

    -- what the end makes begins all
    pub finished_begins : (last : List ℕ) → Finishes far.state last → (e : E) (t : List ℕ) → ClosesOrGoesOn Finishes StopsAtEnd far.state e t → (more : List ℕ) × (t ≡ last ++ more)
    finished_begins last is e t (inl other) = absurd (closed.apart far.state last e t sound is other)
    finished_begins last is e t (inr other) = (other.1, other.3 ∙ ap (λ x. x ++ other.1) (closed.finished far.state other.0 last sound other.2 is))

    -- the end of the file is not taken
    pub end_stops : {F : Type 0} (end_of : F → Option E) (f : LinesFault F) → IsStoppedAtEnd Finishes StopsAtEnd end_of far.state due f now new → AreStopped (Stopping s all.lines all.tail) (Going s all.lines all.tail) (end_at ends end_of f) (IsWritingFault f) old new
    end_stops end_of (Stopped f) why = from_here (end_of f) ⊥
        (λ e is. (why.0, subst (λ ls. Stopping far.state ls left.tail e why.0) (sym at_end.0) (subst (λ z. Stopping far.state [] z e why.0) (sym at_end.1) (why.1 e is)), put_behind why.0 why.3))
        (λ e t going. told (end_of f) refl e t (closing e t going))
        (λ failed. absurd failed)
      where
        told : (o : Option E) → end_of f ≡ o → (e : E) (t : List ℕ) → ClosesOrGoesOn Finishes StopsAtEnd far.state e t → IsBegun (far.text ++ t) old new
        told None is e t going = begun_of (far.text ++ why.0) (far.text ++ t) t old new (ap (λ x. x ++ t) (sym (append-nil far.text) ∙ ap (λ x. far.text ++ x) (sym (why.2 is)))) (all_begun (far.text ++ why.0) old new (put_behind why.0 why.3))
        told (Some d) is e t going = subst (λ x. IsBegun (far.text ++ x) old new) (sym (stopped_end d why.0 (why.1 d is) e t going)) (all_begun (far.text ++ why.0) old new (put_behind why.0 why.3))
    end_stops end_of (Halted h) why = subst (λ z. AreStopped (Stopping s all.lines all.tail) (Going s all.lines all.tail) (halt_end ends z) (z ≡ WriteFault) old new) (sym why.0) (from_here None (WriteFault ≡ WriteFault)
        (λ e is. absurd (none_some is))
        (λ e t going.
        let m = ends_begin why.1.1 e t (closing e t going) in
        begun_of (far.text ++ why.1.0) (far.text ++ t) m.0 old new (ap (λ x. far.text ++ x) m.1 ∙ sym (append_assoc far.text why.1.0 m.0)) (begun_behind why.1.0 why.1.2.begun))
        (λ failed e t going. let m = ends_begin why.1.1 e t (closing e t going) in some_behind why.1.0 t m.0 m.1 why.1.2.some))
      where
        ends_begin : (Finishes far.state why.1.0 ⊎ (((e : E) × StopsAtEnd far.state e why.1.0) ⊎ (why.1.0 ≡ []))) → (e : E) (t : List ℕ) → ClosesOrGoesOn Finishes StopsAtEnd far.state e t → (more : List ℕ) × (t ≡ why.1.0 ++ more)
        ends_begin (inl is) e t going = finished_begins why.1.0 is e t going
        ends_begin (inr (inl stops)) e t going = ([], stopped_end stops.0 why.1.0 stops.1 e t going ∙ sym (append-nil why.1.0))
        ends_begin (inr (inr none)) e t going = (t, sym (ap (λ x. x ++ t) none))

-- no line is left of a whole file, and its end is taken
pub end_taken : {S E : Type 0} (ends : LineEnds E) (Takes : S → ℕ → List ℕ → S → List ℕ → Type 0) (Stops : S → ℕ → List ℕ → E → List ℕ → Type 0) (Finishes : S → List ℕ → Type 0) {IsAt IsAtEnd : S → Type 0} (s : S) (all left : FileLines) (due : List ℕ) (old now new : Option (List ℕ)) (far : IsTakenSoFar ends Takes Stops IsAt s all left due old now) →
    Ends left AtEnd → (last : List ℕ) → Finishes far.state last → IsAtEnd far.state → Appended (due ++ last) now new → AreTaken (AllTaken ends Takes Stops s all.lines) Finishes IsAtEnd all.tail old new
end_taken ends Takes Stops Finishes s all left due old now new far at_end last finished at put = record {
  state = far.state;
  text = far.text;
  last = last;
  taken = subst (λ ls. AllTaken ends Takes Stops s ls far.state far.text) (sym (far.split ∙ (ap (λ ls. far.lines ++ ls) at_end.0 ∙ append-nil far.lines))) far.taken;
  whole = sym far.tail ∙ at_end.1;
  finished = finished;
  at = at;
  put = due_put (far.text ++ last) (due ++ last) old now new (due_more far.text due last old now far.due) put;
}
