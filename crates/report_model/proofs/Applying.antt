-- The reports that are ready are applied: what holds after, and which report is refused.
use Rattle.std.proofs.Common.{◌≡◌, ℕ, zero, suc, ◌≤◌, true, List, [], ◌∷◌, ◌++◌, length, Option, Some, None, refl, sym, ap, ◌∙◌, subst, inl, inr, ⊎_elim, arith, append_assoc, append-nil}
use Rattle.std.specs.List.{find}
use Rattle.wf_model.specs.Lists.{IsIn}
use Rattle.wf_model.specs.Grammar.{Grammar}
use Rattle.wf_model.specs.declared.event.Event.{Event}
use Rattle.wf_model.specs.declared.event.Event.TheVariants.{Expand}
use Rattle.wf_model.specs.declared.event.RunFault.{RunFault}
use Rattle.wf_model.specs.Run.{Expanded, expanded_by, IsAccepted}
use Rattle.wf_model.specs.Faults.{fault_of}
use Rattle.wf_model.proofs.Lists.{in_append_left, bytes_same}
use Rattle.wf_model.proofs.Taking.{taking_law}
use Rattle.wf_model.proofs.Expanding.{expanded_from}
use Rattle.report_model.specs.Reports.{Report, reported}
use Rattle.report_model.specs.Intake.{Intake, ReportFault, Refused, Taking, GoesOn, Stops, without_first, is_ready, ready_in, apply_unless, without_ready, apply_one, apply_ready}
use Rattle.report_model.specs.Laws.{NoneReady}
use Rattle.report_model.proofs.FirstOnes.{report_in, report_from, more_cases, last_in, IsTakenOut, taken_out, none_passes, none_of_none}
use Rattle.report_model.proofs.LateFaults.{IsLate, late_fault}
use Rattle.report_model.proofs.Holding.{Holds}

-- reports were applied, and none of them was refused; where so many times are enough, none that is held is ready
pub record IsApplied (g : Grammar) (most : ℕ) (done : List Report) (n : ℕ) (s t : Intake) : Type 0 where
  pub holds : Holds g most done t
  pub later : List Event
  pub run : t.run ≡ s.run ++ later
  pub ready : length s.held ≤ n → NoneReady g t

-- a report that is ready was refused
pub record IsNotApplied (g : Grammar) (most : ℕ) (done : List Report) (t : Intake) (f : ReportFault) : Type 0 where
  pub report : Report
  pub fault : RunFault
  pub told : f ≡ Refused report.line fault
  pub here : IsIn report done
  pub passes : is_ready g t.run report.event ≡ true
  pub new : IsIn report.event t.run → ⊥
  pub of_run : fault_of g most t.run report.event ≡ Some fault
  pub late : IsLate fault
  pub accepted : IsAccepted g most t.run
  pub within : (x : Event) → IsIn x t.run → IsIn x (reported done)

abbrev pub AfterApply : Grammar → ℕ → List Report → ℕ → Intake → Taking → Type 0
AfterApply g most done n s (GoesOn t) = IsApplied g most done n s t
AfterApply g most done n s (Stops t f) = IsNotApplied g most done t f

reported_within : (done : List Report) (known : List Report) → ((k : Report) → IsIn k known → IsIn k done) → (x : Event) → IsIn x (reported known) → IsIn x (reported done)
reported_within done known h x i = let w = report_from x known i in subst (λ z. IsIn z (reported done)) (sym w.2) (report_in w.0 done (h w.0 w.1))

module _ (g : Grammar) (most : ℕ) (done : List Report) where
  pub run_within : (s : Intake) → Holds g most done s → (x : Event) → IsIn x s.run → IsIn x (reported done)
  run_within s hs x h = reported_within done s.known hs.from x (hs.run_known x h)

  module _ (s : Intake) (hs : Holds g most done s) (r : Report) (t : IsTakenOut (ready_in g s.run) s.held (without_first (ready_in g s.run) s.held) r) where
    -- a held report has not been applied
    held_event : IsIn r.event (reported s.held)
    held_event = report_in r s.held t.here

    known_event : IsIn r.event (reported s.known)
    known_event = report_in r s.known (hs.held_known r t.here)

    -- its event goes on the end of the run
    applied : IsAccepted g most (s.run ++ r.event ∷ []) → Holds g most done (record { run = s.run ++ r.event ∷ []; held = without_first (ready_in g s.run) s.held; known = s.known })
    applied acc =
        let rest = without_first (ready_in g s.run) s.held in
        let back : (x : Event) → IsIn x (reported rest) → IsIn x (reported s.held) = reported_within s.held rest t.back in
        record {
          accepted = acc;
          from = hs.from;
          held_known = λ k h. hs.held_known k (t.back k h);
          all_known = hs.all_known;
          finds = hs.finds;
          split = λ x h. ⊎_elim
              (λ a. inl (in_append_left x s.run (r.event ∷ []) a))
              (λ a. let w = report_from x s.held a in
              ⊎_elim (λ e. inl (subst (λ z. IsIn z (s.run ++ r.event ∷ [])) (sym (w.2 ∙ ap (λ (z : Report). z.event) e)) (last_in r.event s.run))) (λ b. inr (subst (λ z. IsIn z (reported rest)) (sym w.2) (report_in w.0 rest b))) (t.forth w.0 w.1))
              (hs.split x h);
          run_known = λ x h. ⊎_elim (λ a. hs.run_known x a) (λ e. subst (λ z. IsIn z (reported s.known)) (sym e) known_event) (more_cases x r.event s.run h);
          held_new = λ x h i. ⊎_elim (λ a. hs.held_new x (back x h) a) (λ e. t.gone hs.held_differ (subst (λ z. IsIn z (reported rest)) e h)) (more_cases x r.event s.run i);
          held_differ = t.differ hs.held_differ;
          one = hs.one;
        }

    -- its instance has not been expanded
    unexpanded : (i : List ℕ) (p : ℕ) (names : List (List ℕ)) → r.event ≡ Expand i p names → expanded_by s.run i ≡ None
    unexpanded i p names e = go (expanded_by s.run i) refl
      where
        go : (o : Option Expanded) → expanded_by s.run i ≡ o → expanded_by s.run i ≡ None
        go None q = q
        go (Some y) q =
            let there = expanded_from s.run i y q in
            let same = hs.one (Expand i y.production y.names) (Expand i p names) (hs.run_known _ there) (subst (λ z. IsIn z (reported s.known)) e known_event) (bytes_same i i refl) in
            absurd (hs.held_new r.event held_event (subst (λ z. IsIn z s.run) (same ∙ sym e) there))

    -- or it is refused
    not_applied : (f : RunFault) → fault_of g most s.run r.event ≡ Some f → IsNotApplied g most done (without_ready g s) (Refused r.line f)
    not_applied f e = record {
      report = r;
      fault = f;
      told = refl;
      here = hs.from r (hs.held_known r t.here);
      passes = t.passes;
      new = λ h. hs.held_new r.event held_event h;
      of_run = e;
      late = late_fault g most s.run r.event f t.passes unexpanded e;
      accepted = hs.accepted;
      within = run_within s hs;
    }

  further : (n : ℕ) (s : Intake) (x : Event) (t u : Intake) → t.run ≡ s.run ++ x ∷ [] → length s.held ≡ suc (length t.held) → IsApplied g most done n t u → IsApplied g most done (suc n) s u
  further n s x t u e l a =
      record { holds = a.holds; later = x ∷ a.later; run = a.run ∙ (ap (λ z. z ++ a.later) e ∙ append_assoc s.run (x ∷ []) a.later); ready = λ h. a.ready (omega (arith, l, h)) }

  further_on : (n : ℕ) (s : Intake) (x : Event) (t : Intake) → t.run ≡ s.run ++ x ∷ [] → length s.held ≡ suc (length t.held) → (u : Taking) → AfterApply g most done n t u → AfterApply g most done (suc n) s u
  further_on n s x t e l (GoesOn u) a = further n s x t u e l a
  further_on n s x t e l (Stops u f) a = a

  pub after_apply : (n : ℕ) (s : Intake) → Holds g most done s → AfterApply g most done n s (apply_ready g most n s)
  after_apply zero s hs = record { holds = hs; later = []; run = sym (append-nil s.run); ready = λ h k i t. none_of_none s.held h k i }
  after_apply (suc n) s hs = go (after_apply n) (find (ready_in g s.run) s.held) refl
    where
      go : ((t : Intake) → Holds g most done t → AfterApply g most done n t (apply_ready g most n t)) → (o : Option Report) → find (ready_in g s.run) s.held ≡ o →
          AfterApply g most done (suc n) s (apply_one g most (apply_ready g most n) s o)
      go ih None q = record { holds = hs; later = []; run = sym (append-nil s.run); ready = λ h k i t. none_passes (ready_in g s.run) s.held q k i t }
      go ih (Some r) q = by_fault (fault_of g most s.run r.event) refl
        where
          out : IsTakenOut (ready_in g s.run) s.held (without_first (ready_in g s.run) s.held) r
          out = taken_out (ready_in g s.run) s.held r q

          by_fault : (f : Option RunFault) → fault_of g most s.run r.event ≡ f → AfterApply g most done (suc n) s (apply_unless (apply_ready g most n) (without_ready g s) r f)
          by_fault None e =
              let next : Intake = record { run = s.run ++ r.event ∷ []; held = without_first (ready_in g s.run) s.held; known = s.known } in
              further_on n s r.event next refl out.shorter (apply_ready g most n next) (ih next (applied s hs r out ((taking_law g most s.run r.event hs.accepted).0 e)))
          by_fault (Some f) e = not_applied s hs r out f e
