-- What reports come to when they are taken one after another, and at their end.
use Rattle.std.proofs.Common.{◌≡◌, ◌≢◌, ℕ, ◌≤◌, Bool, true, false, List, [], ◌∷◌, ◌++◌, zero, suc, length, Option, Some, None, refl, sym, ap, ◌∙◌, subst, inl, ⊎_elim, arith, append_assoc, append-nil}
use Rattle.std.specs.List.{find}
use Rattle.wf_model.specs.Lists.{IsIn}
use Rattle.wf_model.specs.Grammar.{Grammar}
use Rattle.wf_model.specs.declared.event.Event.{Event}
use Rattle.wf_model.specs.declared.event.RunFault.{RunFault}
use Rattle.wf_model.specs.Run.{IsRun, IsAccepted}
use Rattle.wf_model.specs.Faults.{fault_of}
use Rattle.wf_model.proofs.Lists.{in_append_left}
use Rattle.wf_model.proofs.Taking.{taking_law}
use Rattle.label_model.specs.Files.{label_file}
use Rattle.label_model.proofs.FileGrowth.{file_grows_law}
use Rattle.report_model.specs.Reports.{Report, reported, about}
use Rattle.report_model.specs.Intake.{Intake, nothing_taken, ReportFault, Conflict, Refused, Orphan, Taking, GoesOn, Stops, state_after, and_then, is_ready, hold, apply_ready, take_report, take_reports, end_with, intake, without_first, ready_in, apply_unless, without_ready, apply_one}
use Rattle.report_model.specs.Laws.{NoneReady, IsRefused, contradicts, not_taken, never_ready, AreTaken, AnyOrderLaw, TakenLaw, AcceptedLaw, AllReadyLaw, RefusedLaw, FileOfMoreLaw, IsRunOfSome}
use Rattle.report_model.proofs.Events.{one_subject, events_differ}
use Rattle.report_model.proofs.FirstOnes.{report_in, report_from, last_in, taken_out, none_passes, none_of_none}
use Rattle.report_model.proofs.Holding.{Holds, AfterHold, held, find_kept}
use Rattle.report_model.proofs.Applying.{AfterApply, after_apply, run_within}
use Rattle.report_model.proofs.Ready.{accepted_when_ready, all_or_missing}
use Rattle.report_model.proofs.Growing.{at_end, growing_law}
use Rattle.report_model.proofs.Reordered.{reordered_law}

-- one of the reports was refused before their end
record IsStopped (g : Grammar) (most : ℕ) (done : List Report) (t : Intake) (f : ReportFault) : Type 0 where
  why : IsRefused g most done t.run f
  accepted : IsAccepted g most t.run
  within : (x : Event) → IsIn x t.run → IsIn x (reported done)
  within_end : (l : ℕ) → f ≢ Orphan l

abbrev AfterReports : Grammar → ℕ → List Report → Taking → Type 0
AfterReports g most done (GoesOn t) = Holds g most done t × NoneReady g t
AfterReports g most done (Stops t f) = IsStopped g most done t f

refused_more : (g : Grammar) (most : ℕ) (done more : List Report) (run : List Event) (f : ReportFault) → IsRefused g most done run f → IsRefused g most (done ++ more) run f
refused_more g most done more run f (contradicts r k h q n) = contradicts r k (in_append_left r done more h) (find_kept (about r.event) done more k q) n
refused_more g most done more run f (not_taken r k h p n e a b c d) = not_taken r k (in_append_left r done more h) p n e a b c d
refused_more g most done more run f (never_ready r h p) = never_ready r (in_append_left r done more h) p

reported_more : (done more : List Report) (x : Event) → IsIn x (reported done) → IsIn x (reported (done ++ more))
reported_more done more x h = let w = report_from x done h in subst (λ z. IsIn z (reported (done ++ more))) (sym w.2) (report_in w.0 (done ++ more) (in_append_left w.0 done more w.1))

-- the end is reached from where the reports go on, if none is held then
pub ends_on : (u : Taking) (s : Intake) → and_then u (λ t. end_with t t.held) ≡ GoesOn s → (u ≡ GoesOn s) × (s.held ≡ [])
ends_on (Stops t f) s e = absurd (cc)
ends_on (GoesOn t) s e = go (t.held) refl e
  where
    go : (held : List Report) → t.held ≡ held → end_with t held ≡ GoesOn s → (GoesOn t ≡ GoesOn s) × (s.held ≡ [])
    go [] q e = let w : t ≡ s = cc in (e, sym (ap (λ (z : Intake). z.held) w) ∙ q)
    go (r ∷ held) q e = absurd (cc)

module _ (g : Grammar) (most : ℕ) where
  stopped_more : (done more : List Report) (t : Intake) (f : ReportFault) → IsStopped g most done t f → IsStopped g most (done ++ more) t f
  stopped_more done more t f s = record {
    why = refused_more g most done more t.run f s.why;
    accepted = s.accepted;
    within = λ x h. reported_more done more x (s.within x h);
    within_end = s.within_end;
  }

  of_apply : (done : List Report) (s : Intake) (u : Taking) → AfterApply g most done (length s.held) s u → AfterReports g most done u
  of_apply done s (GoesOn t) a = (a.holds, a.ready (omega arith))
  of_apply done s (Stops t f) a = record {
    why = subst (IsRefused g most done t.run) (sym a.told) (not_taken a.report a.fault a.here a.passes a.new a.of_run a.late.no_start a.late.no_second a.late.no_unknown a.late.no_again);
    accepted = a.accepted;
    within = a.within;
    within_end = λ l e. let z : Refused a.report.line a.fault ≡ Orphan l = sym a.told ∙ e in absurd (cc);
  }

  after_report : (done : List Report) (s : Intake) (r : Report) → Holds g most done s → AfterReports g most (done ++ r ∷ []) (take_report g most s r)
  after_report done s r hs = go (hold s r) (held g most done s hs r)
    where
      go : (u : Taking) → AfterHold g most done s r u → AfterReports g most (done ++ r ∷ []) (and_then u (λ t. apply_ready g most (length t.held) t))
      go (GoesOn t) h = of_apply (done ++ r ∷ []) t (apply_ready g most (length t.held) t) (after_apply g most (done ++ r ∷ []) (length t.held) t h.0)
      go (Stops t f) h = record {
        why = subst (IsRefused g most (done ++ r ∷ []) t.run) (sym h.1.3) (contradicts r h.1.0 (last_in r done) (find_kept (about r.event) done (r ∷ []) h.1.0 h.1.1) h.1.2);
        accepted = subst (λ (z : Intake). IsAccepted g most z.run) (sym h.0) hs.accepted;
        within = λ x i. reported_more done (r ∷ []) x (run_within g most done s hs x (subst (λ (z : Intake). IsIn x z.run) h.0 i));
        within_end = λ l e. let z : Conflict r.line h.1.0.line ≡ Orphan l = sym h.1.3 ∙ e in absurd (cc);
      }

  after_reports : (rs done : List Report) (s : Intake) → Holds g most done s → NoneReady g s → AfterReports g most (done ++ rs) (take_reports g most s rs)
  after_reports [] done s hs n = subst (λ l. AfterReports g most l (GoesOn s)) (sym (append-nil done)) (hs, n)
  after_reports (r ∷ rs) done s hs n = go (after_reports rs (done ++ r ∷ [])) (take_report g most s r) (after_report done s r hs)
    where
      go : ((t : Intake) → Holds g most (done ++ r ∷ []) t → NoneReady g t → AfterReports g most ((done ++ r ∷ []) ++ rs) (take_reports g most t rs)) →
          (u : Taking) → AfterReports g most (done ++ r ∷ []) u → AfterReports g most (done ++ r ∷ rs) (and_then u (λ t. take_reports g most t rs))
      go ih (GoesOn t) h = subst (λ l. AfterReports g most l (take_reports g most t rs)) (append_assoc done (r ∷ []) rs) (ih t h.0 h.1)
      go ih (Stops t f) h = subst (λ l. IsStopped g most l t f) (append_assoc done (r ∷ []) rs) (stopped_more (done ++ r ∷ []) rs t f h)

  at_first : Holds g most [] nothing_taken
  at_first = record {
    accepted = (tt, omega arith, λ n h. absurd h);
    from = λ k h. h;
    held_known = λ k h. h;
    all_known = λ k h. absurd h;
    finds = λ x. refl;
    split = λ x h. absurd h;
    run_known = λ x h. h;
    held_new = λ x h i. h;
    held_differ = tt;
    one = λ x y h k t. absurd h;
  }

  after_all : (rs : List Report) → AfterReports g most rs (take_reports g most nothing_taken rs)
  after_all rs = after_reports rs [] nothing_taken at_first (λ r h t. h)

  nil_from : (rs : List Report) → ((r : Report) → IsIn r rs → ⊥) → rs ≡ []
  nil_from [] h = refl
  nil_from (r ∷ rs) h = absurd (h r (inl refl))

  -- where the reports go on and none is held, they are those of the run
  are_taken : (rs : List Report) (s : Intake) → take_reports g most nothing_taken rs ≡ GoesOn s → Holds g most rs s → s.held ≡ [] → AreTaken g most rs
  are_taken rs s e hs none = record {
    state = s;
    goes_on = ap (λ u. and_then u (λ t. end_with t t.held)) e ∙ ap (end_with s) none;
    none_held = none;
    accepted = hs.accepted;
    events = λ x. (
      (λ h. let w = report_from x rs h in ⊎_elim (λ a. a) (λ a. absurd (subst (λ z. IsIn x (reported z)) none a)) (hs.split x (subst (λ z. IsIn z (reported s.known)) (sym w.2) (hs.all_known w.0 w.1)))),
      λ h. run_within g most rs s hs x h,
    );
    once = events_differ g g.start [] s.run hs.accepted.0;
  }

  module _ (e : List Event) (rs : List Report) (acc : IsAccepted g most e) (same : (x : Event) → (IsIn x (reported rs) → IsIn x e) × (IsIn x e → IsIn x (reported rs))) where
    -- none of the reports of an accepted run is refused
    none_refused : (run : List Event) (f : ReportFault) → IsAccepted g most run → ((x : Event) → IsIn x run → IsIn x (reported rs)) → IsRefused g most rs run f → ((l : ℕ) → f ≢ Orphan l) → ⊥
    none_refused run f ok within (contradicts r k h q n) end =
        let t = taken_out (about r.event) rs k q in
        n (one_subject g g.start e acc.0 k.event r.event ((same k.event).0 (report_in k rs t.here)) ((same r.event).0 (report_in r rs h)) t.passes)
    none_refused run f ok within (not_taken r k h p n w a b c d) end =
        let x = r.event in
        let more = accepted_when_ready g e acc.0 run ok.0 (λ y i. (same y).0 (within y i)) most acc x ((same x).0 (report_in r rs h)) n p in
        let none = (taking_law g most run x ok).1 more in
        let z = sym w ∙ none in absurd (cc)
    none_refused run f ok within (never_ready r h p) end = end r.line refl

    all_applied : (s : Intake) → Holds g most rs s → NoneReady g s → s.held ≡ []
    all_applied s hs ready =
        let sub : (x : Event) → IsIn x s.run → IsIn x e = λ x h. (same x).0 (run_within g most rs s hs x h) in
        ⊎_elim
        (λ all. nil_from s.held (λ r h. hs.held_new r.event (report_in r s.held h) (all r.event ((same r.event).0 (report_in r rs (hs.from r (hs.held_known r h)))))))
        (λ m. absurd (
        let w = report_from m.0 rs ((same m.0).1 m.1.0) in
        ⊎_elim (λ a. m.1.1 a) (λ a. let v = report_from m.0 s.held a in ready v.0 v.1 (ap (is_ready g s.run) (sym v.2) ∙ m.1.2)) (hs.split m.0 (subst (λ z. IsIn z (reported s.known)) (sym w.2) (hs.all_known w.0 w.1)))
        ))
        (all_or_missing g e acc.0 s.run hs.accepted.0 sub)

    any_order : AreTaken g most rs
    any_order = go (take_reports g most nothing_taken rs) refl (after_all rs)
      where
        go : (u : Taking) → take_reports g most nothing_taken rs ≡ u → AfterReports g most rs u → AreTaken g most rs
        go (GoesOn s) q h = are_taken rs s q h.0 (all_applied s h.0 h.1)
        go (Stops s f) q h = absurd (none_refused s.run f h.accepted h.within h.why h.within_end)

pub any_order_law : AnyOrderLaw
any_order_law g most e rs acc same =
    let t = any_order g most e rs acc same in
    (t, λ wf. reordered_law g e t.state.run wf acc.0 t.accepted.0 (λ x. ((λ h. (t.events x).0 ((same x).1 h)), (λ h. (same x).0 ((t.events x).1 h)))))

pub taken_law : TakenLaw
taken_law g most rs s e =
    let w = ends_on (take_reports g most nothing_taken rs) s e in
    let h : AfterReports g most rs (GoesOn s) = subst (AfterReports g most rs) w.0 (after_all g most rs) in
    are_taken g most rs s w.0 h.0 w.1

pub accepted_law : AcceptedLaw
accepted_law g most rs =
    let a = go (take_reports g most nothing_taken rs) (after_all g most rs) in
    subst (λ (z : Intake). IsRunOfSome g most rs z.run) (sym (at_end g most rs)) a
  where
    go : (u : Taking) → AfterReports g most rs u → IsRunOfSome g most rs (state_after u).run
    go (GoesOn s) h = record { accepted = h.0.accepted; within = run_within g most rs s h.0; once = events_differ g g.start [] s.run h.0.accepted.0 }
    go (Stops s f) h = record { accepted = h.accepted; within = h.within; once = events_differ g g.start [] s.run h.accepted.0 }

pub file_of_more_law : FileOfMoreLaw
file_of_more_law g digest most rs more =
    let long = state_after (intake g most (rs ++ more)) in
    let short = state_after (intake g most rs) in
    let b = (growing_law.from g most nothing_taken rs more).begins in
    let e : long.run ≡ short.run ++ b.0 = ap (λ (z : Intake). z.run) (at_end g most (rs ++ more)) ∙ (b.1 ∙ ap (λ (z : Intake). z.run ++ b.0) (sym (at_end g most rs))) in
    let r = file_grows_law g digest short.run b.0 (subst (IsRun g g.start) e (accepted_law g most (rs ++ more)).accepted.0) in
    (r.0, ap (label_file g digest) e ∙ r.1)

-- no held report is ready after as many times as reports are held, whatever the state
times_enough : (g : Grammar) (most n : ℕ) (s t : Intake) → length s.held ≤ n → apply_ready g most n s ≡ GoesOn t → NoneReady g t
times_enough g most zero s t h e = let w : s ≡ t = cc in subst (NoneReady g) w (λ r i k. none_of_none s.held h r i)
times_enough g most (suc n) s t h e = go (times_enough g most n) (find (ready_in g s.run) s.held) refl e
  where
    go : ((s t : Intake) → length s.held ≤ n → apply_ready g most n s ≡ GoesOn t → NoneReady g t) → (o : Option Report) → find (ready_in g s.run) s.held ≡ o → apply_one g most (apply_ready g most n) s o ≡ GoesOn t → NoneReady g t
    go ih None q e = let w : s ≡ t = cc in subst (NoneReady g) w (λ r i k. none_passes (ready_in g s.run) s.held q r i k)
    go ih (Some r) q e = by_fault (fault_of g most s.run r.event) e
      where
        by_fault : (f : Option RunFault) → apply_unless (apply_ready g most n) (without_ready g s) r f ≡ GoesOn t → NoneReady g t
        by_fault None e = let l = (taken_out (ready_in g s.run) s.held r q).shorter in ih (record { run = s.run ++ r.event ∷ []; held = without_first (ready_in g s.run) s.held; known = s.known }) t (omega (arith, l, h)) e
        by_fault (Some f) e = absurd (cc)

pub all_ready_law : AllReadyLaw
all_ready_law = record {
  times = λ g most s t e. times_enough g most (length s.held) s t (omega arith) e;
  reports = λ g most rs t e. (subst (AfterReports g most rs) e (after_all g most rs)).1;
}

pub refused_law : RefusedLaw
refused_law g most rs s f e = go (take_reports g most nothing_taken rs) (after_all g most rs) e
  where
    go : (u : Taking) → AfterReports g most rs u → and_then u (λ t. end_with t t.held) ≡ Stops s f → IsRefused g most rs s.run f
    go (Stops t k) h e =
        let a : t ≡ s = cc in
        let b : k ≡ f = cc in
        subst (λ (z : Intake). IsRefused g most rs z.run f) a (subst (IsRefused g most rs t.run) b h.why)
    go (GoesOn t) h e = by_held (t.held) refl e
      where
        by_held : (held : List Report) → t.held ≡ held → end_with t held ≡ Stops s f → IsRefused g most rs s.run f
        by_held [] q e = absurd (cc)
        by_held (r ∷ held) q e =
            let a : t ≡ s = cc in
            let b : Orphan r.line ≡ f = cc in
            let here : IsIn r t.held = subst (IsIn r) (sym q) (inl refl) in
            subst (λ (z : Intake). IsRefused g most rs z.run f) a (subst (IsRefused g most rs t.run) b (never_ready r (h.0.from r (h.0.held_known r here)) (not_ready r (h.1 r here) (is_ready g t.run r.event) refl)))
          where
            not_ready : (r : Report) → (is_ready g t.run r.event ≡ true → ⊥) → (b : Bool) → is_ready g t.run r.event ≡ b → is_ready g t.run r.event ≡ false
            not_ready r n true e = absurd (n e)
            not_ready r n false e = e
