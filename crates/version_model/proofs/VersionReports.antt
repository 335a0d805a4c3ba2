-- Reports that a version takes, the grammar takes.
use Rattle.std.proofs.Common.{◌≡◌, ℕ, zero, suc, Bool, true, false, cond, List, [], ◌∷◌, ◌++◌, length, Option, Some, None, refl, sym, ap, ◌∙◌, subst, arith}
use Rattle.std.specs.List.{find}
use Rattle.wf_model.specs.Grammar.{Grammar}
use Rattle.wf_model.specs.declared.event.Event.{Event}
use Rattle.wf_model.specs.declared.event.Event.TheVariants.{Start, Expand}
use Rattle.wf_model.specs.declared.event.RunFault.{RunFault}
use Rattle.wf_model.specs.Run.{names_of, IsAccepted}
use Rattle.wf_model.specs.Faults.{is_one_of, fault_of}
use Rattle.wf_model.specs.Versions.{version_of, IsVersion}
use Rattle.wf_model.proofs.Taking.{taking_law}
use Rattle.report_model.specs.Reports.{Report, about, same_event}
use Rattle.report_model.specs.Intake.{Intake, nothing_taken, Taking, GoesOn, Stops, Conflict, and_then, without_first, is_ready, ready_in, hold_beside, hold, apply_unless, without_ready, apply_one, apply_ready, apply_all, take_report, take_reports, end_with, intake}
use Rattle.version_model.specs.Laws.{VersionReportsLaw}
use Rattle.version_model.proofs.VersionRuns.{made_same, version_run_law}

-- the first element that passes is the same by tests that agree
find_alike : {A : Type 0} (f h : A → Bool) → ((x : A) → f x ≡ h x) → (xs : List A) → find f xs ≡ find h xs
find_alike f h same [] = refl
find_alike f h same (x ∷ xs) = ap (λ b. cond b (Some x) (find f xs)) (same x) ∙ ap (λ o. cond (h x) (Some x) o) (find_alike f h same xs)

-- and so are the others
without_alike : {A : Type 0} (f h : A → Bool) → ((x : A) → f x ≡ h x) → (xs : List A) → without_first f xs ≡ without_first h xs
without_alike f h same [] = refl
without_alike f h same (x ∷ xs) = ap (λ b. cond b xs (x ∷ without_first f xs)) (same x) ∙ ap (λ l. cond (h x) xs (x ∷ l)) (without_alike f h same xs)

goes_on_same : (s t : Intake) → GoesOn s ≡ GoesOn t → s ≡ t
goes_on_same s t q = cc

module _ (g : Grammar) (m p most : ℕ) (is : IsVersion g m p) where
  abbrev older : Grammar
  older = version_of g m p

  -- an accepted run makes the same event ready in both
  ready_alike : (run : List Event) → IsAccepted older most run → (r : Report) → ready_in g run r ≡ ready_in older run r
  ready_alike run acc r = by r.event
    where
      by : (e : Event) → is_ready g run e ≡ is_ready older run e
      by (Start n) = refl
      by (Expand i q names) = ap (λ l. is_one_of (names_of l) i) (made_same g m p is g.start [] run acc.0)

  -- an event that the version takes has no fault in the grammar
  no_fault_above : (run : List Event) (e : Event) → IsAccepted older most run → fault_of older most run e ≡ None → fault_of g most run e ≡ None
  no_fault_above run e acc none =
      let up = (version_run_law g m p is).accepted most in
      (taking_law g most run e (up run acc)).1 (up (run ++ e ∷ []) ((taking_law older most run e acc).0 none))

  -- what the version comes to from a state of an accepted run, the grammar comes to, and the run is accepted
  pub record IsReached (t : Intake) (there : Taking) : Type 0 where
    pub same : there ≡ GoesOn t
    pub accepted : IsAccepted older most t.run

  applied_above : (n : ℕ) (s t : Intake) → IsAccepted older most s.run → apply_ready older most n s ≡ GoesOn t → IsReached t (apply_ready g most n s)
  applied_above zero s t acc q = record { same = q; accepted = subst (λ (z : Intake). IsAccepted older most z.run) (goes_on_same s t q) acc }
  applied_above (suc n) s t acc q =
      let alike = ready_alike s.run acc in
      subst (λ o. IsReached t (apply_one g most (apply_ready g most n) s o)) (sym (find_alike (ready_in g s.run) (ready_in older s.run) alike s.held))
      (by_found (λ z a w. applied_above n z t a w) (find (ready_in older s.run) s.held) q)
    where
      by_fault : ((z : Intake) → IsAccepted older most z.run → apply_ready older most n z ≡ GoesOn t → IsReached t (apply_ready g most n z)) → (r : Report) (o : Option RunFault) → fault_of older most s.run r.event ≡ o → apply_unless (apply_ready older most n) (without_ready older s) r o ≡ GoesOn t →
          IsReached t (apply_unless (apply_ready g most n) (without_ready g s) r (fault_of g most s.run r.event))
      by_fault go r (Some f) none q = absurd (cc)
      by_fault go r None none q =
          let next : Intake = record { run = s.run ++ r.event ∷ []; held = without_first (ready_in older s.run) s.held; known = s.known } in
          let taken : IsAccepted older most (s.run ++ r.event ∷ []) = (taking_law older most s.run r.event acc).0 none in
          let rest : without_first (ready_in g s.run) s.held ≡ without_first (ready_in older s.run) s.held = without_alike (ready_in g s.run) (ready_in older s.run) (ready_alike s.run acc) s.held in
          subst (λ f. IsReached t (apply_unless (apply_ready g most n) (without_ready g s) r f)) (sym (no_fault_above s.run r.event acc none))
          (subst (λ l. IsReached t (apply_ready g most n (record { run = s.run ++ r.event ∷ []; held = l; known = s.known }))) (sym rest) (go next taken q))

      by_found : ((z : Intake) → IsAccepted older most z.run → apply_ready older most n z ≡ GoesOn t → IsReached t (apply_ready g most n z)) → (o : Option Report) → apply_one older most (apply_ready older most n) s o ≡ GoesOn t → IsReached t (apply_one g most (apply_ready g most n) s o)
      by_found go None q = record { same = q; accepted = subst (λ (z : Intake). IsAccepted older most z.run) (goes_on_same s t q) acc }
      by_found go (Some r) q = by_fault go r (fault_of older most s.run r.event) refl q

  -- holding a report leaves the run as it is
  held_run : (s t : Intake) (r : Report) (o : Option Report) → hold_beside s r o ≡ GoesOn t → s.run ≡ t.run
  held_run s t r None q = ap (λ (z : Intake). z.run) (goes_on_same _ t q)
  held_run s t r (Some k) q = by (same_event k.event r.event) q
    where
      by : (b : Bool) → cond b (GoesOn s) (Stops s (Conflict r.line k.line)) ≡ GoesOn t → s.run ≡ t.run
      by true q = ap (λ (z : Intake). z.run) (goes_on_same s t q)
      by false q = absurd (cc)

  taken_above : (s t : Intake) (r : Report) → IsAccepted older most s.run → take_report older most s r ≡ GoesOn t → IsReached t (take_report g most s r)
  taken_above s t r acc q = by (hold s r) refl q
    where
      by : (h : Taking) → hold s r ≡ h → and_then h (apply_all older most) ≡ GoesOn t → IsReached t (and_then h (apply_all g most))
      by (GoesOn u) same q = applied_above (length u.held) u t (subst (IsAccepted older most) (held_run s u r (find (about r.event) s.known) same) acc) q
      by (Stops u f) same q = absurd (cc)

  all_above : (s t : Intake) (reports : List Report) → IsAccepted older most s.run → take_reports older most s reports ≡ GoesOn t → IsReached t (take_reports g most s reports)
  all_above s t [] acc q = record { same = q; accepted = subst (λ (z : Intake). IsAccepted older most z.run) (goes_on_same s t q) acc }
  all_above s t (r ∷ reports) acc q = by (λ u a w. all_above u t reports a w) (take_report older most s r) refl q
    where
      by : ((u : Intake) → IsAccepted older most u.run → take_reports older most u reports ≡ GoesOn t → IsReached t (take_reports g most u reports)) → (h : Taking) → take_report older most s r ≡ h → and_then h (λ u. take_reports older most u reports) ≡ GoesOn t → IsReached t (and_then (take_report g most s r) (λ u. take_reports g most u reports))
      by go (GoesOn u) same q =
          let one = taken_above s u r acc same in
          subst (λ h. IsReached t (and_then h (λ v. take_reports g most v reports))) (sym one.same) (go u one.accepted q)
      by go (Stops u f) same q = absurd (cc)

pub version_reports_law : VersionReportsLaw
version_reports_law g m p most is reports t q = by (take_reports (version_of g m p) most nothing_taken reports) refl q
  where
    by : (h : Taking) → take_reports (version_of g m p) most nothing_taken reports ≡ h → and_then h (λ s. end_with s s.held) ≡ GoesOn t → intake g most reports ≡ GoesOn t
    by (GoesOn u) same q =
        let none : IsAccepted (version_of g m p) most [] = (tt, omega arith, λ n h. absurd h) in
        ap (λ h. and_then h (λ s. end_with s s.held)) (all_above g m p most is nothing_taken u reports none same).same ∙ q
    by (Stops u f) same q = absurd (cc)
