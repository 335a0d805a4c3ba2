-- A report that is taken: it repeats another, or contradicts it, or is held; or it is ready.
use Rattle.std.proofs.Common.{◌≡◌, ℕ, zero, suc, ◌<◌, Bool, true, false, cond, List, [], ◌∷◌, ◌++◌, map, filter, length, ◌≤◌, Option, None, Some, refl, sym, ap, ◌∙◌, subst, inl, inr, ⊎_elim, arith, true≢false}
use Rattle.std.specs.Option.{option_or}
use Rattle.std.specs.List.{find}
use Rattle.std.proofs.lemmas.List.{map-append, length-append}
use Rattle.std.proofs.lemmas.List.Folds.{find-append}
use Rattle.wf_model.specs.Lists.{IsIn, AllDiffer}
use Rattle.wf_model.specs.Grammar.{Grammar}
use Rattle.wf_model.specs.declared.event.Event.{Event}
use Rattle.wf_model.proofs.Lists.{in_map, in_map_from}
use Rattle.report_model.specs.Reports.{Report, subject_of, same_event, about}
use Rattle.report_model.specs.Intake.{Intake, ReportFault, Conflict, GoesOn, Stops, ready_in, without_ready, hold_beside, hold, take_report}
use Rattle.report_model.specs.Kept.{Kept, report_of, reports_of, is_held, kept_at, newly_kept}
use Rattle.report_model.proofs.Events.{same_subjects}
use Rattle.report_model.proofs.FirstOnes.{more_cases, none_passes}
use Rattle.report_model.proofs.Marked.{marked_last}
use Rattle.report_model.proofs.Rounds.{taken_by}
use Rattle.wf_inbox.specs.declared.inbox.Offer.{Offer}
use Rattle.wf_inbox.specs.declared.inbox.Offer.TheVariants.{Kept as IsHeld, Repeat}
use Rattle.wf_inbox.specs.Inboxes.{known_on, IsOffered, Contradicts}
use Rattle.wf_intake.specs.declared.standing.Standing.TheVariants.{Same, Other, Ready, Early}
use Rattle.wf_intake.specs.Reported.{ReportedSeen, noted}
use Rattle.wf_intake.specs.Applied.{applied_on, IsStanding}
use Rattle.wf_intake.specs.Intakes.{subjects_of, IsKeptAs, IsIntakeOf, IsWrittenOn}
use Rattle.wf_intake.specs.Rounds.{names_given, all_marked, held_count, IsApplied, IsNotApplied, IsReportBegun, StopsWith}
use Rattle.wf_intake.proofs.KnownOn.{known_more, held_as_kept, ready_alike}
use Rattle.wf_intake.proofs.OnTheWay.{no_way}
use Rattle.wf_intake.proofs.Places.{count_marked}
use Rattle.wf_intake.proofs.Parts.{goes_beside, ready_refused, ready_applied, ready_way, ready_parts}
use Rattle.wf_intake.proofs.Stepping.{written_same}

-- what is so of the report of each place, and of one more
each_more : (P : Kept → Type 0) (kept : List Kept) (y : Kept) → ((j : ℕ) → j < length kept → P (kept_at kept j)) → P y → (j : ℕ) → j < length (kept ++ y ∷ []) → P (kept_at (kept ++ y ∷ []) j)
each_more P [] y h p zero l = p
each_more P [] y h p (suc j) l = absurd (omega (arith, l))
each_more P (x ∷ kept) y h p zero l = h 0 (omega arith)
each_more P (x ∷ kept) y h p (suc j) l = each_more P kept y (λ i m. h (suc i) (omega (arith, m))) p j (omega (arith, l))

differ_last : {A : Type 0} (xs : List A) (y : A) → AllDiffer xs → (IsIn y xs → ⊥) → AllDiffer (xs ++ y ∷ [])
differ_last [] y d n = ((λ h. h), tt)
differ_last (x ∷ xs) y d n = ((λ h. ⊎_elim (λ a. d.0 a) (λ e. n (inl (sym e))) (more_cases x y xs h)), differ_last xs y d.1 (λ h. n (inr h)))

-- the subject of a report is new where none that is kept is about it
new_subject : (kept : List Kept) (r : Report) → find (about r.event) (reports_of kept) ≡ None → IsIn (subject_of r.event) (subjects_of kept) → ⊥
new_subject kept r q h =
    let w = in_map_from (λ (k : Kept). subject_of k.report.event) (subject_of r.event) kept h in
    none_passes (about r.event) (reports_of kept) q w.0.report (in_map report_of w.0 kept w.1) (same_subjects w.0.report.event r.event (sym w.2))

or_assoc : {A : Type 0} (a b c : Option A) → option_or (option_or a b) c ≡ option_or a (option_or b c)
or_assoc None b c = refl
or_assoc (Some x) b c = refl

module _ (g : Grammar) (most : ℕ) (old : List Kept) (seen : ReportedSeen) (IsRun : List Event → Type 0) (s : Intake) (here : IsIntakeOf g old seen IsRun s) (r : Report) where
  -- beside the one on its subject
  beside : (k : Report) → find (about r.event) s.known ≡ Some k → (b : Bool) → same_event k.event r.event ≡ b → hold s r ≡ cond b (GoesOn s) (Stops s (Conflict r.line k.line))
  beside k q b e = ap (hold_beside s r) q ∙ ap (λ c. cond c (GoesOn s) (Stops s (Conflict r.line k.line))) e

  -- a contradiction ends the intake
  contradicted : (k : Report) → find (about r.event) s.known ≡ Some k → same_event k.event r.event ≡ false → (earlier : ℕ) → k.line ≡ earlier → take_report g most s r ≡ Stops s (Conflict r.line earlier)
  contradicted k q e earlier l = taken_by g most s r (Stops s (Conflict r.line k.line)) (beside k q false e) ∙ ap (λ n. Stops s (Conflict r.line n)) l

  of_applied : (k : Report) → applied_on g s.run seen r.event ≡ Some k → find (about r.event) s.known ≡ Some k
  of_applied k q = here.parts.known r.event ∙ ap (λ o. option_or o (find (about r.event) s.held)) q

  module _ (written : List Event → List ℕ) (text : List ℕ) where
    abbrev Begun : List Kept → Type 0
    Begun kept = IsReportBegun g most written kept seen IsRun text text s r

    abbrev Stopped : ReportFault → Type 0
    Stopped f = StopsWith written IsRun text text s (take_report g most s r) f

    nothing : IsWrittenOn written s.run s.run text text
    nothing = written_same written s.run text text refl

    -- no event is applied where the report is held or ignored
    only_held : (kept : List Kept) (first : Intake) → hold s r ≡ GoesOn first → IsKeptAs g kept seen IsRun first → IsWrittenOn written first.run first.run text text → Begun kept
    only_held kept first held now same = record { first = first; held = held; comes = record { later = first; same = refl; on_the_way = no_way g most first; here = now; text = same } }

    -- the event of a report was applied
    pub applied_again : IsStanding g s.run seen r.event Same → Begun old
    applied_again a = only_held old s (beside a.0 (of_applied a.0 a.1) true a.2) here.parts nothing

    -- another on its subject was applied
    pub applied_other : (earlier : ℕ) → IsStanding g s.run seen r.event (Other earlier) → (f : ReportFault) → ◌≡◌ {A = Option ReportFault} (Some (Conflict r.line earlier)) (Some f) → Stopped f
    applied_other earlier a f told =
        let e : Conflict r.line earlier ≡ f = cc in
        record { left = s; stops = contradicted a.0 (of_applied a.0 a.1) a.2 earlier a.3 ∙ ap (Stops s) e; run = here.parts.run; text = nothing }

    module _ (early : IsStanding g s.run seen r.event Early) where
      -- each report that is about the same is held, since others were ready
      all_held : (j : ℕ) → j < length old → (kept_at old j).held ≡ false → subject_of (kept_at old j).report.event ≡ subject_of r.event → ⊥
      all_held j l h q = true≢false (sym (here.parts.gone j l h) ∙ (ready_alike g s.run (kept_at old j).report.event r.event q ∙ early.1))

      of_kept : (o : Option Report) → known_on old r.event ≡ o → find (about r.event) s.known ≡ o
      of_kept o q = here.parts.known r.event ∙ (ap (λ z. option_or z (find (about r.event) s.held)) early.0 ∙ (ap (find (about r.event)) here.parts.held ∙ (held_as_kept old r.event all_held ∙ q)))

      abbrev k : Kept
      k = newly_kept r false

      abbrev later : Intake
      later = record { run = s.run; held = s.held ++ r ∷ []; known = s.known ++ r ∷ [] }

      held_new : known_on old r.event ≡ None → IsKeptAs g (old ++ k ∷ []) seen IsRun later
      held_new none = record {
        run = here.parts.run;
        held = ap (λ l. l ++ r ∷ []) here.parts.held ∙ sym (ap (map report_of) (marked_last is_held is_held old k refl) ∙ map-append report_of (filter is_held old) (k ∷ []));
        known = λ x. known_more s.known r x ∙
            (ap (λ o. option_or o (find (about x) (r ∷ []))) (here.parts.known x) ∙
            (or_assoc (applied_on g s.run seen x) (find (about x) s.held) (find (about x) (r ∷ [])) ∙
            ap (option_or (applied_on g s.run seen x)) (sym (find-append (about x) s.held (r ∷ [])))));
        marks = each_more (λ (x : Kept). x.held ≡ true → x.ready ≡ ready_in g s.run x.report) old k here.parts.marks (λ h. sym early.1);
        subjects = subst AllDiffer (sym (map-append (λ (x : Kept). subject_of x.report.event) old (k ∷ []))) (differ_last (subjects_of old) (subject_of r.event) here.parts.subjects (new_subject old r none));
        expansions = each_more (λ (x : Kept). subject_of x.report.event ≡ None → ⊥) old k here.parts.expansions early.2;
        waiting = each_more (λ (x : Kept). x.held ≡ true → applied_on g s.run seen x.report.event ≡ None) old k here.parts.waiting (λ h. early.0);
        gone = each_more (λ (x : Kept). x.held ≡ false → ready_in g s.run x.report ≡ true) old k here.parts.gone (λ h. absurd (true≢false h));
        fits = here.parts.fits;
      }

      -- its instance does not stand yet: it is held, or ignored
      pub offered : (kept : List Kept) (o : Offer) → IsOffered old kept r.line r.event false o → Begun kept
      offered kept IsHeld h = subst Begun (sym h.added) (only_held (old ++ k ∷ []) later (ap (hold_beside s r) (of_kept None h.first)) (held_new h.first) nothing)
      offered kept Repeat h =
          let p = h.0 in
          subst Begun (sym h.1) (only_held old s (beside p.0 (of_kept (Some p.0) p.1) true p.2) here.parts nothing)

      -- or refused
      pub refused : (earlier : ℕ) → Contradicts old r earlier → (f : ReportFault) → ◌≡◌ {A = Option ReportFault} (Some (Conflict r.line earlier)) (Some f) → Stopped f
      refused earlier c f told =
          let e : Conflict r.line earlier ≡ f = cc in
          record { left = s; stops = contradicted c.0 (of_kept (Some c.0) c.1) c.2 earlier c.3 ∙ ap (Stops s) e; run = here.parts.run; text = nothing }

-- a report that is ready
module _ (g : Grammar) (most : ℕ) (written : Grammar → List Event → List ℕ) (old : List Kept) (seen : ReportedSeen) (WasRun : List Event → Type 0) (line : ℕ) (e : Event) (number : Option ℕ) (s : Intake) (here : IsIntakeOf g old seen WasRun s) (stands : IsStanding g s.run seen e (Ready number)) (before : List ℕ) where
  abbrev report : Report
  report = record { line = line; event = e }

  -- it is held at first
  abbrev beside_it : Intake
  beside_it = record { run = s.run; held = s.held ++ report ∷ []; known = s.known ++ report ∷ [] }

  -- the run refuses it
  pub refused_at_once : (r : ReportFault) (IsRun : List Event → Type 0) (now : List ℕ) → IsNotApplied g most s.run e line r IsRun before now → StopsWith (written g) IsRun before now s (take_report g most s report) r
  refused_at_once r IsRun now a = record {
    left = _;
    stops = ready_refused g most old seen WasRun s here line e number stands a.fault a.of_run ∙ ap (Stops (without_ready g beside_it)) (sym a.told);
    run = a.untouched.run;
    text = written_same (written g) s.run before now a.untouched.text;
  }

  is_held_so : hold s report ≡ GoesOn beside_it
  is_held_so = goes_beside g most old seen WasRun s here line e number stands

  abbrev after : Intake
  after = record { run = s.run ++ e ∷ []; held = s.held; known = s.known ++ report ∷ [] }

  -- its event is applied
  pub applied_at_once : (kept : List Kept) (lines : ReportedSeen) (IsRun : List Event → Type 0) (now : List ℕ) → IsApplied g most (written g) s.run e IsRun before now → kept ≡ all_marked (names_given e) old → lines ≡ noted seen number line e →
      IsReportBegun g most (written g) kept lines IsRun before now s report
  applied_at_once kept lines IsRun now a marks notes = record {
    first = beside_it;
    held = is_held_so;
    comes = record {
      later = after;
      same = sym (taken_by g most s report (GoesOn beside_it) is_held_so) ∙ ready_applied g most old seen WasRun s here line e number stands a.extends;
      on_the_way = ready_way g most old seen WasRun s here line e number stands a.extends;
      here = subst (λ z. IsKeptAs g kept z IsRun after) (sym notes) (subst (λ z. IsKeptAs g z (noted seen number line e) IsRun after) (sym marks) (ready_parts g most old seen WasRun s here line e number stands a.extends IsRun a.run));
      text = a.text;
    };
  }

-- as many reports are held where others are marked, and no fewer where one is offered
pub as_many : (names : List (List ℕ)) (old new : List Kept) → new ≡ all_marked names old → held_count old ≤ held_count new
as_many names old new is = let e = ap held_count is ∙ count_marked names old in omega (arith, e)

pub no_fewer : (old new : List Kept) (line : ℕ) (e : Event) (o : Offer) → IsOffered old new line e false o → held_count old ≤ held_count new
no_fewer old new line e IsHeld h =
    let r : Report = record { line = line; event = e } in
    let a = ap held_count h.added ∙ ap length (marked_last is_held is_held old (newly_kept r false) refl) in
    let b = length-append (filter is_held old) (newly_kept r false ∷ []) in
    omega (arith, a, b)
no_fewer old new line e Repeat h = let e = ap held_count h.1 in omega (arith, e)
