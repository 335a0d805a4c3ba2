-- A file of events, taken line by line: what its lines make one by one is what the file makes.
use Rattle.std.proofs.Common.{◌≡◌, ℕ, zero, suc, Bool, true, false, cond, List, [], ◌∷◌, ◌++◌, length, Option, Some, None, refl, sym, ap, ◌∙◌, subst, inl, inr, append_assoc, append-nil}
use Rattle.std.specs.Prelude.{codes, ◌⊎◌}
use Rattle.std.specs.List.{find}
use Rattle.std.proofs.lemmas.List.{append_cancel_left}
use Rattle.wf_model.specs.declared.event.Event.{Event}
use Rattle.wf_model.specs.declared.event.RunFault.{RunFault}
use Rattle.wf_model.specs.Grammar.{Grammar}
use Rattle.wf_model.specs.Run.{IsAccepted}
use Rattle.wf_model.specs.Faults.{fault_of}
use Rattle.wf_model.proofs.Taking.{taking_law}
use Rattle.wf_laws.proofs.Accepted.{none_taken}
use Rattle.report_model.specs.Reports.{Report, same_event, about}
use Rattle.report_model.specs.Intake.{Intake, nothing_taken, ReportFault, Conflict, Orphan, Taking, GoesOn as GoesOnFrom, Stops, state_after, and_then, ready_in, hold_beside, hold, apply_unless, without_ready, apply_one, apply_ready, apply_all, take_report, take_reports, end_with, intake}
use Rattle.report_model.proofs.Growing.{in_parts}
use Rattle.report_model.proofs.Rounds.{taken_by}
use Rattle.report_model.proofs.TakenReports.{ends_on}
use Rattle.wf_io.specs.Lines.{Line, FileLines, Tail, AtEnd, Broken, LongFile}
use Rattle.wf_lines.specs.LineStages.{StopsLine, AllTaken, OfLines, IsOneWay, IsClosedOneWay}
use Rattle.wf_lines.specs.BegunLines.{BegunLine, BeginsEach}
use Rattle.wf_lines.proofs.LineStages.{lines_on}
use Rattle.wf_intake.proofs.OnTheWay.{held_run, way_same}
use Rattle.wf_message.specs.Endings.{End, Refused}
use Rattle.wf_stage.specs.LineEnds.{line_ends}
use Rattle.wf_inputs.specs.RunTold.{IsEventLine, report_on, AreReports, AreTakenTo, RefusesLine, report_end, refused, stopped, held, long_file, broken, EventsStage, stops, goes_on}
use Rattle.wf_inputs.specs.RunTaking.{TakenSoFar, with_state, IsWrittenBehind, TakesReport, StopsReport, AppliesSoFar, MakesSoFar, nothing_written, HoldsNone, StopsHolding, IsAcceptedSoFar}
use Rattle.wf_inputs.proofs.OneValue.{one_event}
use Rattle.wf_inputs.proofs.OneForm.{no_event, one_form_fault}

-- reports are taken in one way
one_state : (u : Taking) (s q : Intake) → u ≡ GoesOnFrom s → u ≡ GoesOnFrom q → s ≡ q
one_state u s q p r = ap state_after (sym p ∙ r)

not_both : (u : Taking) (s q : Intake) (f : ReportFault) → u ≡ GoesOnFrom s → u ≡ Stops q f → ⊥
not_both u s q f p r = let e = sym p ∙ r in absurd (cc)

one_stop : (u : Taking) (s q : Intake) (f k : ReportFault) → u ≡ Stops s f → u ≡ Stops q k → (s ≡ q) × (f ≡ k)
one_stop u s q f k p r = let e = sym p ∙ r in (cc, cc)

module _ (written : Grammar → List Event → List ℕ) where
  -- what is written of the events of one state behind those of another is one text
  one_text : (s : TakenSoFar) (q r : Intake) (p t : List ℕ) → q ≡ r → IsWrittenBehind (written s.grammar) s.state.run q.run p → IsWrittenBehind (written s.grammar) s.state.run r.run t → p ≡ t
  one_text s q r p t same h k = append_cancel_left (written s.grammar s.state.run) p t (sym h ∙ (ap (λ (z : Intake). written s.grammar z.run) same ∙ k))

  module _ (s : TakenSoFar) (n : ℕ) (x : List ℕ) where
    one_taken : (q r : TakenSoFar) (p t : List ℕ) → TakesReport written s n x q p → TakesReport written s n x r t → (q ≡ r) × (p ≡ t)
    one_taken q r p t h k =
        let same = ap (λ e. take_report s.grammar s.limit s.state (report_on n e)) (one_event x h.event k.event h.told k.told) in
        let state = one_state _ h.state k.state h.taken (same ∙ k.taken) in
        (h.leaves ∙ (ap (with_state s) state ∙ sym k.leaves), one_text s h.state k.state p t state h.made_is k.made_is)

    taken_apart : (q : TakenSoFar) (p : List ℕ) (e : End) (t : List ℕ) → TakesReport written s n x q p → StopsReport written s n x e t → ⊥
    taken_apart q p e t h (inl k) = no_event x k.0 h.event k.1 h.told
    taken_apart q p e t h (inr k) = not_both _ h.state k.state k.fault h.taken (ap (λ z. take_report s.grammar s.limit s.state (report_on n z)) (one_event x h.event k.event h.told k.told) ∙ k.refused)

    one_stopped : (d e : End) (t u : List ℕ) → StopsReport written s n x d t → StopsReport written s n x e u → (d ≡ e) × (t ≡ u)
    one_stopped d e t u (inl h) (inl k) = (h.2 ∙ (ap (Refused (codes "events") (Some n)) (one_form_fault x h.0 k.0 h.1 k.1) ∙ sym k.2), h.3 ∙ sym k.3)
    one_stopped d e t u (inl h) (inr k) = absurd (no_event x h.0 k.event h.1 k.told)
    one_stopped d e t u (inr h) (inl k) = absurd (no_event x k.0 h.event k.1 h.told)
    one_stopped d e t u (inr h) (inr k) =
        let same = ap (λ z. take_report s.grammar s.limit s.state (report_on n z)) (one_event x h.event k.event h.told k.told) in
        let one = one_stop _ h.state k.state h.fault k.fault h.refused (same ∙ k.refused) in
        (h.ending_is ∙ (ap report_end one.1 ∙ sym k.ending_is), one_text s h.state k.state t u one.0 h.made_is k.made_is)

-- some reports have one first
one_first : (hs : List Report) (r k : Report) (rs ks : List Report) → hs ≡ r ∷ rs → hs ≡ k ∷ ks → r ≡ k
one_first hs r k rs ks p q = let e = sym p ∙ q in (cc)

none_first : (hs : List Report) (r : Report) (rs : List Report) → hs ≡ [] → hs ≡ r ∷ rs → ⊥
none_first hs r rs p q = let e = sym p ∙ q in absurd (cc)

-- the end of the file is passed or refused in one way, and nothing is made of it
pub events_closed_one_way : IsClosedOneWay IsAcceptedSoFar HoldsNone StopsHolding
events_closed_one_way = record {
  finished = λ s p t ok h k. h.1 ∙ sym k.1;
  apart = λ s p e t ok h k. none_first s.state.held k.0 k.1 h.0 k.2;
  stopped = λ s d e t u ok h k. (h.3 ∙ (ap (λ (r : Report). report_end (Orphan r.line)) (one_first s.state.held h.0 k.0 h.1 k.1 h.2 k.2) ∙ sym k.3), h.4 ∙ sym k.4);
}

-- so far reports are taken, and this is the state of their intake
abbrev pub after : Grammar → ℕ → Intake → TakenSoFar
after g limit s = record { grammar = g; limit = limit; state = s }

-- one line more is read
one_more_read : (ls : List Line) (reports : List Report) (l : Line) (e : Event) → AreReports ls reports → IsEventLine l e → AreReports (ls ++ l ∷ []) (reports ++ report_on l.number e ∷ [])
one_more_read [] [] l e read is = (refl, is, tt)
one_more_read [] (r ∷ rs) l e read is = absurd read
one_more_read (k ∷ ls) [] l e read is = absurd read
one_more_read (k ∷ ls) (r ∷ rs) l e read is = (read.0, read.1, one_more_read ls rs l e read.2 is)

module _ (g : Grammar) (limit : ℕ) where
  -- reports are taken whole, where all are taken and none is held
  pub taken_whole : (reports : List Report) (s : Intake) → take_reports g limit nothing_taken reports ≡ GoesOnFrom s → s.held ≡ [] → intake g limit reports ≡ GoesOnFrom s
  taken_whole reports s taken none = ap (λ u. and_then u (λ t. end_with t t.held)) taken ∙ ap (end_with s) none

  -- and only there
  pub of_taken_whole : (reports : List Report) (s : Intake) → intake g limit reports ≡ GoesOnFrom s → (take_reports g limit nothing_taken reports ≡ GoesOnFrom s) × (s.held ≡ [])
  of_taken_whole reports s e = ends_on (take_reports g limit nothing_taken reports) s e

  -- one report more is taken
  one_more : (ls : List Line) (s q : Intake) (l : Line) (e : Event) → AreTakenTo g limit ls s → IsEventLine l e → take_report g limit s (report_on l.number e) ≡ GoesOnFrom q → AreTakenTo g limit (ls ++ l ∷ []) q
  one_more ls s q l e told is taken = record {
    reports = told.reports ++ report_on l.number e ∷ [];
    read = one_more_read ls told.reports l e told.read is;
    taken =
        in_parts g limit told.reports (report_on l.number e ∷ []) nothing_taken ∙
        (ap (λ u. and_then u (λ t. take_reports g limit t (report_on l.number e ∷ []))) told.taken ∙ ap (λ u. and_then u (λ t. GoesOnFrom t)) taken);
  }

module _ (written : Grammar → List Event → List ℕ) where
  -- lines that are taken tell reports that are taken, and what they make is what is written of the events that were applied
  pub taken_told : (ls : List Line) (s q : TakenSoFar) (text : List ℕ) → AllTaken (line_ends (codes "events")) (TakesReport written) (StopsReport written) s ls q text →
      (reports : List Report) × (state : Intake) × AreReports ls reports × (take_reports s.grammar s.limit s.state reports ≡ GoesOnFrom state) × (q ≡ with_state s state) × IsWrittenBehind (written s.grammar) s.state.run state.run text
  taken_told [] s q text h = ([], s.state, tt, refl, h.0, sym (ap (λ x. written s.grammar s.state.run ++ x) h.1 ∙ append-nil (written s.grammar s.state.run)))
  taken_told (l ∷ ls) s q text h =
      let k = h.3.1 in
      let r = taken_told ls (with_state s k.state) q h.2 (subst (λ z. AllTaken (line_ends (codes "events")) (TakesReport written) (StopsReport written) z ls q h.2) k.leaves h.4) in (
        report_on l.number k.event ∷ r.0,
        r.1,
        (refl, (h.3.0, k.told), r.2),
        ap (λ u. and_then u (λ t. take_reports s.grammar s.limit t r.0)) k.taken ∙ r.3,
        r.4,
        r.5 ∙ (ap (λ x. x ++ h.2) k.made_is ∙ (append_assoc (written s.grammar s.state.run) h.1 h.2 ∙ ap (λ x. written s.grammar s.state.run ++ x) (sym h.5))),
      )

  module _ (g : Grammar) (limit : ℕ) where
    -- all lines of events are taken
    abbrev pub Taken : Intake → List Line → Intake → List ℕ → Type 0
    Taken s ls q text = AllTaken (line_ends (codes "events")) (TakesReport written) (StopsReport written) (after g limit s) ls (after g limit q) text

    module _ (Next : List Event → End → List ℕ → Type 0) where
      -- behind the last line a report is held, and ends the program; or none is, and the program goes on, with what is written of all events before its text
      abbrev pub GoesOn : TakenSoFar → End → List ℕ → Type 0
      GoesOn s ending text = StopsHolding s ending text ⊎ ((s.state.held ≡ []) × Next s.state.run ending (written g s.state.run ++ text))

      -- what lines make where the intake of the reports before is in this state
      abbrev pub Makes : Intake → List Line → Tail → End → List ℕ → Type 0
      Makes s ls tail d t = OfLines (line_ends (codes "events")) (TakesReport written) (StopsReport written) GoesOn (after g limit s) ls tail d t

      -- the file of some lines that are taken, and of the lines behind them
      abbrev whole_of : List Line → List Line → Tail → FileLines
      whole_of done ls tail = record { lines = done ++ ls; tail = tail }

      nothing_behind : (s : Intake) (t : List ℕ) → t ≡ [] → written g s.run ++ t ≡ written g s.run
      nothing_behind s t none = ap (λ x. written g s.run ++ x) none ∙ append-nil (written g s.run)

      all_taken : (done : List Line) (s : Intake) → AreTakenTo g limit done s → AreTakenTo g limit (done ++ []) s
      all_taken done s told = subst (λ ls. AreTakenTo g limit ls s) (sym (append-nil done)) told

      -- what lines make behind those that are taken, the file of all makes
      forth : (tail : Tail) (ls done : List Line) (s : Intake) → AreTakenTo g limit done s → (d : End) (t : List ℕ) → Makes s ls tail d t → EventsStage g limit (whole_of done ls tail) (written g) Next d (written g s.run ++ t)
      forth AtEnd [] done s told d t (inl h) =
          stops s (held refl (record { told = all_taken done s told; first = h.0; later = h.1; held = h.2; ending_is = h.3 })) (nothing_behind s t h.4)
      forth AtEnd [] done s told d t (inr h) =
          let all = all_taken done s told in
          goes_on s.run (record { whole = refl; reports = all.reports; read = all.read; state = s; taken = taken_whole g limit all.reports s all.taken h.0; run = refl }) h.1
      forth Broken [] done s told d t h = stops s (broken (all_taken done s told) refl h.0) (nothing_behind s t h.1)
      forth (LongFile n) [] done s told d t h = stops s (long_file n (all_taken done s told) refl h.0) (nothing_behind s t h.1)
      forth tail (l ∷ ls) done s told d t (inl (inl h)) =
          stops s (refused (record { taken = done; first = l; later = ls; split = refl; told = told; fault = codes "LineTooLong"; refused = inl (h.0, refl); ending_is = h.1 })) (nothing_behind s t h.2)
      forth tail (l ∷ ls) done s told d t (inl (inr (short, inl h))) =
          stops s (refused (record { taken = done; first = l; later = ls; split = refl; told = told; fault = h.0; refused = inr (short, h.1); ending_is = h.2 })) (nothing_behind s t h.3)
      forth tail (l ∷ ls) done s told d t (inl (inr (short, inr h))) =
          stops h.state (stopped (record { taken = done; first = l; later = ls; split = refl; before = s; told = told; event = h.event; read = (short, h.told); fault = h.fault; stops = h.refused; ending_is = h.ending_is })) (sym h.made_is)
      forth tail (l ∷ ls) done s told d t (inr h) =
          let k = h.3.1 in
          let more = one_more g limit done s k.state l k.event told (h.3.0, k.told) k.taken in
          let later = forth tail ls (done ++ l ∷ []) k.state more d h.2 (subst (λ z. OfLines (line_ends (codes "events")) (TakesReport written) (StopsReport written) GoesOn z ls tail d h.2) k.leaves h.4) in
          let text : written g k.state.run ++ h.2 ≡ written g s.run ++ t = ap (λ x. x ++ h.2) k.made_is ∙ (append_assoc (written g s.run) h.1 h.2 ∙ ap (λ x. written g s.run ++ x) (sym h.5)) in
          subst (EventsStage g limit (whole_of done (l ∷ ls) tail) (written g) Next d) text
          (subst (λ z. EventsStage g limit (record { lines = z; tail = tail }) (written g) Next d (written g k.state.run ++ h.2)) (append_assoc done (l ∷ []) ls) later)

      no_lines : AreTakenTo g limit [] nothing_taken
      no_lines = record { reports = []; read = tt; taken = refl }

      -- what the lines of a file make one by one, behind what is written of no events, is what the file makes
      pub events_forth : (file : FileLines) (d : End) (t : List ℕ) → Makes nothing_taken file.lines file.tail d t → EventsStage g limit file (written g) Next d (written g [] ++ t)
      events_forth file d t h = forth file.tail file.lines [] nothing_taken no_lines d t h

    module _ (grows : (before : List Event) (e : Event) → IsAccepted g limit (before ++ e ∷ []) → (piece : List ℕ) × (written g (before ++ e ∷ []) ≡ written g before ++ piece)) where
      -- reports are taken from an accepted run into one, of whose events a text is written behind that of the events before
      abbrev Adds : List Event → Taking → Type 0
      Adds run u = IsAccepted g limit (state_after u).run × (piece : List ℕ) × IsWrittenBehind (written g) run (state_after u).run piece

      adds_nothing : (run : List Event) → IsAccepted g limit run → IsAccepted g limit run × (piece : List ℕ) × IsWrittenBehind (written g) run run piece
      adds_nothing run acc = (acc, [], sym (append-nil (written g run)))

      then_adds : (run : List Event) (u : Taking) (next : Intake → Taking) → Adds run u → ((s : Intake) → IsAccepted g limit s.run → Adds s.run (next s)) → Adds run (and_then u next)
      then_adds run (GoesOnFrom s) next h k = let a = k s h.0 in (a.0, h.1 ++ a.1, a.2 ∙ (ap (λ x. x ++ a.1) h.2 ∙ append_assoc (written g run) h.1 a.1))
      then_adds run (Stops s f) next h k = h

      hold_adds : (s : Intake) (r : Report) → IsAccepted g limit s.run → Adds s.run (hold s r)
      hold_adds s r acc = go (find (about r.event) s.known)
        where
          beside : (k : Report) (b : Bool) → Adds s.run (cond b (GoesOnFrom s) (Stops s (Conflict r.line k.line)))
          beside k true = adds_nothing s.run acc
          beside k false = adds_nothing s.run acc

          go : (o : Option Report) → Adds s.run (hold_beside s r o)
          go None = adds_nothing s.run acc
          go (Some k) = beside k (same_event k.event r.event)

      apply_adds : (n : ℕ) (s : Intake) → IsAccepted g limit s.run → Adds s.run (apply_ready g limit n s)
      apply_adds zero s acc = adds_nothing s.run acc
      apply_adds (suc n) s acc = go (apply_adds n) (find (ready_in g s.run) s.held)
        where
          by_fault : ((t : Intake) → IsAccepted g limit t.run → Adds t.run (apply_ready g limit n t)) → (r : Report) (f : Option RunFault) → fault_of g limit s.run r.event ≡ f → Adds s.run (apply_unless (apply_ready g limit n) (without_ready g s) r f)
          by_fault ih r None q =
              let more = (taking_law g limit s.run r.event acc).0 q in
              let first = grows s.run r.event more in
              let a = ih (record { run = s.run ++ r.event ∷ []; held = (without_ready g s).held; known = s.known }) more in
              (a.0, first.0 ++ a.1, a.2 ∙ (ap (λ x. x ++ a.1) first.1 ∙ append_assoc (written g s.run) first.0 a.1))
          by_fault ih r (Some f) q = adds_nothing s.run acc

          go : ((t : Intake) → IsAccepted g limit t.run → Adds t.run (apply_ready g limit n t)) → (o : Option Report) → Adds s.run (apply_one g limit (apply_ready g limit n) s o)
          go ih None = adds_nothing s.run acc
          go ih (Some r) = by_fault ih r (fault_of g limit s.run r.event) refl

      report_adds : (s : Intake) (r : Report) → IsAccepted g limit s.run → Adds s.run (take_report g limit s r)
      report_adds s r acc = then_adds s.run (hold s r) _ (hold_adds s r acc) (λ t ok. apply_adds (length t.held) t ok)

      -- lines that tell reports that are taken are taken, and what they make is what is written of the events that were applied
      pub taken_all : (ls : List Line) (s q : Intake) (reports : List Report) → IsAccepted g limit s.run → AreReports ls reports → take_reports g limit s reports ≡ GoesOnFrom q →
          IsAccepted g limit q.run × (text : List ℕ) × IsWrittenBehind (written g) s.run q.run text × Taken s ls q text
      taken_all [] s q [] acc read e =
          subst (λ (z : Intake). IsAccepted g limit z.run × (text : List ℕ) × IsWrittenBehind (written g) s.run z.run text × Taken s [] z text) (ap state_after e) (acc, [], sym (append-nil (written g s.run)), (refl, refl))
      taken_all [] s q (r ∷ rs) acc read e = absurd read
      taken_all (l ∷ ls) s q [] acc read e = absurd read
      taken_all (l ∷ ls) s q (r ∷ rs) acc read e = go (taken_all ls) (take_report g limit s r) refl (report_adds s r acc) e
        where
          go : ((t q : Intake) (rs : List Report) → IsAccepted g limit t.run → AreReports ls rs → take_reports g limit t rs ≡ GoesOnFrom q → IsAccepted g limit q.run × (text : List ℕ) × IsWrittenBehind (written g) t.run q.run text × Taken t ls q text) →
              (u : Taking) → take_report g limit s r ≡ u → Adds s.run u → and_then u (λ t. take_reports g limit t rs) ≡ GoesOnFrom q → IsAccepted g limit q.run × (text : List ℕ) × IsWrittenBehind (written g) s.run q.run text × Taken s (l ∷ ls) q text
          go ih (Stops t f) p adds e = absurd (cc)
          go ih (GoesOnFrom t) p adds e =
              let k = ih t q rs adds.0 read.2 e in
              let first : TakesReport written (after g limit s) l.number _ (after g limit t) adds.1 = record { event = r.event; state = t; told = read.1.1; taken = ap (λ n. take_report g limit s (report_on n r.event)) (sym read.0) ∙ p; leaves = refl; made_is = adds.2 } in
              (k.0, adds.1 ++ k.1, k.2 ∙ (ap (λ x. x ++ k.1) adds.2 ∙ append_assoc (written g s.run) adds.1 k.1), (after g limit t, adds.1, k.1, (read.1.0, first), k.3, refl))

      module _ (Next : List Event → End → List ℕ → Type 0) (begins : (es : List Event) (d : End) (t : List ℕ) → Next es d t → (rest : List ℕ) × (t ≡ written g es ++ rest)) where
        -- what follows lines that are taken is what the file makes behind what is written of their events
        behind : (file : FileLines) (ls more : List Line) (s : Intake) (d : End) (t rest : List ℕ) → file.lines ≡ ls ++ more → AreTakenTo g limit ls s → t ≡ written g s.run ++ rest → Makes Next s more file.tail d rest →
            (made : List ℕ) × (t ≡ written g [] ++ made) × Makes Next nothing_taken file.lines file.tail d made
        behind file ls more s d t rest split told is makes =
            let k = taken_all ls nothing_taken s told.reports (none_taken g limit) told.read told.taken in (
              k.1 ++ rest,
              is ∙ (ap (λ x. x ++ rest) k.2 ∙ append_assoc (written g []) k.1 rest),
              subst (λ z. Makes Next nothing_taken z file.tail d (k.1 ++ rest)) (sym split)
                  (lines_on (line_ends (codes "events")) (TakesReport written) (StopsReport written) (GoesOn Next) file.tail ls more (after g limit nothing_taken) (after g limit s) k.1 k.3 d rest makes),
            )

        -- so where all lines are taken
        behind_all : (file : FileLines) (tail : Tail) (s : Intake) (d : End) (t rest : List ℕ) → file.tail ≡ tail → AreTakenTo g limit file.lines s → t ≡ written g s.run ++ rest → Makes Next s [] tail d rest →
            (made : List ℕ) × (t ≡ written g [] ++ made) × Makes Next nothing_taken file.lines file.tail d made
        behind_all file tail s d t rest tail_is told is makes =
            behind file file.lines [] s d t rest (sym (append-nil file.lines)) told is (subst (λ z. Makes Next s [] z d rest) (sym tail_is) makes)

        here : (s : Intake) (t : List ℕ) → t ≡ written g s.run → t ≡ written g s.run ++ []
        here s t is = is ∙ sym (append-nil (written g s.run))

        -- and what the file makes is what its lines make one by one
        pub events_back : (file : FileLines) (d : End) (t : List ℕ) → EventsStage g limit file (written g) Next d t → (made : List ℕ) × (t ≡ written g [] ++ made) × Makes Next nothing_taken file.lines file.tail d made
        events_back file d t (stops s (refused at) is) = behind file at.taken (at.first ∷ at.later) s d t [] at.split at.told (here s t is) (inl (stop at.first at.fault at.refused at.ending_is))
          where
            stop : (l : Line) (fault : List ℕ) → RefusesLine l fault → d ≡ Refused (codes "events") (Some l.number) fault → StopsLine (line_ends (codes "events")) (TakesReport written) (StopsReport written) (after g limit s) l d []
            stop l fault (inl long) x = inl (long.0, x ∙ ap (Refused (codes "events") (Some l.number)) long.1, refl)
            stop l fault (inr h) x = inr (h.0, inl (fault, h.1, x, refl))
        events_back file d t (stops s (stopped at) is) =
            let all = taken_all at.taken nothing_taken at.before at.told.reports (none_taken g limit) at.told.read at.told.taken in
            let adds : Adds at.before.run (Stops s at.fault) = subst (Adds at.before.run) at.stops (report_adds at.before (report_on at.first.number at.event) all.0) in
            behind file at.taken (at.first ∷ at.later) at.before d t adds.1 at.split at.told (is ∙ adds.2)
            (inl (inr (at.read.0, inr (record { event = at.event; state = s; fault = at.fault; told = at.read.1; refused = at.stops; ending_is = at.ending_is; made_is = adds.2 }))))
        events_back file d t (stops s (held ends at) is) =
            behind_all file AtEnd s d t [] ends at.told (here s t is) (inl (at.first, at.later, at.held, at.ending_is, refl))
        events_back file d t (stops s (long_file n told long x) is) = behind_all file (LongFile n) s d t [] long told (here s t is) (x, refl)
        events_back file d t (stops s (broken told breaks x) is) = behind_all file Broken s d t [] breaks told (here s t is) (x, refl)
        events_back file d t (goes_on es told next) =
            let w = of_taken_whole g limit told.reports told.state told.taken in
            let after_all : Next told.state.run d t = subst (λ z. Next z d t) (sym told.run) next in
            let b = begins told.state.run d t after_all in
            behind_all file AtEnd told.state d t b.0 told.whole (record { reports = told.reports; read = told.read; taken = w.0 }) b.1 (inr (w.1, subst (Next told.state.run d) b.1 after_all))

-- reports are taken from an accepted run into one
accepted_on : (g : Grammar) (limit : ℕ) (s : Intake) (r : Report) → IsAccepted g limit s.run → IsAccepted g limit (state_after (take_report g limit s r)).run
accepted_on g limit s r acc = (report_adds nothing_written g limit (λ before e more. ([], refl)) s r acc).0

module _ (written : Grammar → List Event → List ℕ) where
  sound_on : (s : TakenSoFar) (n : ℕ) (x : List ℕ) (q : TakenSoFar) (p : List ℕ) → IsAcceptedSoFar s → TakesReport written s n x q p → IsAcceptedSoFar q
  sound_on s n x q p acc h = subst IsAcceptedSoFar (sym h.leaves) (subst (λ u. IsAccepted s.grammar s.limit (state_after u).run) h.taken (accepted_on s.grammar s.limit s.state (report_on n h.event) acc))

  -- a line of events is taken or refused in one way
  pub events_one_way : IsOneWay IsAcceptedSoFar (TakesReport written) (StopsReport written)
  events_one_way = record {
    sound = sound_on;
    taken = λ s n x q r p t ok h k. one_taken written s n x q r p t h k;
    apart = λ s n x q p e t ok h k. taken_apart written s n x q p e t h k;
    stopped = λ s n x d e t u ok h k. one_stopped written s n x d e t u h k;
  }

  module _ (grows : (g : Grammar) (limit : ℕ) (before : List Event) (e : Event) → IsAccepted g limit (before ++ e ∷ []) → (piece : List ℕ) × (written g (before ++ e ∷ []) ≡ written g before ++ piece)) where
    module _ (p : BegunLine TakenSoFar) (ok : IsAcceptedSoFar p.state) (h : AppliesSoFar written p) where
      abbrev g : Grammar
      g = p.state.grammar

      abbrev limit : ℕ
      limit = p.state.limit

      -- what taking the report comes to
      abbrev all : Taking
      all = take_report g limit p.state.state (report_on p.number h.event)

      same_run : h.first.run ≡ p.state.state.run
      same_run = sym (ap (λ u. (state_after u).run) h.held) ∙ held_run p.state.state (report_on p.number h.event)

      accepted_there : IsAccepted g limit h.reached.run
      accepted_there =
          subst (λ u. IsAccepted g limit (state_after u).run) h.on_the_way.go_on
          (apply_adds written g limit (grows g limit) h.on_the_way.rounds h.first (subst (IsAccepted g limit) (sym same_run) ok)).0

      from_there : apply_all g limit h.reached ≡ all
      from_there = sym (taken_by g limit p.state.state (report_on p.number h.event) (GoesOnFrom h.first) h.held ∙ way_same g limit h.first h.reached h.on_the_way)

      -- it is written behind what is made so far
      goes_behind : (more : List ℕ) × IsWrittenBehind (written g) p.state.state.run (state_after all).run (p.made ++ more)
      goes_behind =
          let a = subst (Adds written g limit (grows g limit) h.reached.run) from_there (apply_adds written g limit (grows g limit) (length h.reached.held) h.reached accepted_there) in (
            a.1,
            a.2 ∙ (ap (λ x. x ++ a.1) (h.made_is ∙ ap (λ es. written g es ++ p.made) same_run) ∙ append_assoc (written g p.state.state.run) p.made a.1),
          )

      -- so what is made so far begins what is made
      begins_made : (u : Taking) (t : List ℕ) → all ≡ u → IsWrittenBehind (written g) p.state.state.run (state_after u).run t → (more : List ℕ) × (t ≡ p.made ++ more)
      begins_made u t is made =
          (goes_behind.0, append_cancel_left (written g p.state.state.run) t (p.made ++ goes_behind.0) (sym made ∙ (ap (λ z. written g (state_after z).run) (sym is) ∙ goes_behind.1)))

      begins_taken : (q : TakenSoFar) (t : List ℕ) → TakesReport written p.state p.number p.text q t → (more : List ℕ) × (t ≡ p.made ++ more)
      begins_taken q t k = begins_made (GoesOnFrom k.state) t (ap (λ e. take_report g limit p.state.state (report_on p.number e)) (one_event p.text h.event k.event h.told k.told) ∙ k.taken) k.made_is

      begins_stopped : (e : End) (t : List ℕ) → StopsReport written p.state p.number p.text e t → (more : List ℕ) × (t ≡ p.made ++ more)
      begins_stopped e t (inl k) = absurd (no_event p.text k.0 h.event k.1 h.told)
      begins_stopped e t (inr k) = begins_made (Stops k.state k.fault) t (ap (λ z. take_report g limit p.state.state (report_on p.number z)) (one_event p.text h.event k.event h.told k.told) ∙ k.refused) k.made_is

    taken_so_far : (p : BegunLine TakenSoFar) (q : TakenSoFar) (t : List ℕ) → IsAcceptedSoFar p.state → MakesSoFar written p → TakesReport written p.state p.number p.text q t → (more : List ℕ) × (t ≡ p.made ++ more)
    taken_so_far p q t ok (inl none) k = (t, sym (ap (λ x. x ++ t) none))
    taken_so_far p q t ok (inr h) k = begins_taken p ok h q t k

    stopped_so_far : (p : BegunLine TakenSoFar) (e : End) (t : List ℕ) → IsAcceptedSoFar p.state → MakesSoFar written p → StopsReport written p.state p.number p.text e t → (more : List ℕ) × (t ≡ p.made ++ more)
    stopped_so_far p e t ok (inl none) k = (t, sym (ap (λ x. x ++ t) none))
    stopped_so_far p e t ok (inr h) k = begins_stopped p ok h e t k

    -- what a line makes so far begins what it makes
    pub events_begin : BeginsEach IsAcceptedSoFar (TakesReport written) (StopsReport written) (MakesSoFar written)
    events_begin = record { taken = taken_so_far; stopped = stopped_so_far }
