-- The parts of a state after an event is applied.
use Rattle.std.proofs.Common.{◌≡◌, ℕ, ◌<◌, Bool, true, false, cond, List, [], ◌∷◌, ◌++◌, map, filter, length, Option, None, Some, refl, sym, ap, ◌∙◌, subst, arith, true≢false}
use Rattle.std.specs.Prelude.{◌==◌}
use Rattle.std.specs.Option.{option_or}
use Rattle.std.specs.List.{find, slice_set}
use Rattle.std.proofs.lemmas.Bool.Decides.{nat_tests}
use Rattle.std.proofs.lemmas.List.{length-set}
use Rattle.std.proofs.lemmas.List.Folds.{find-append}
use Rattle.wf_model.specs.Lists.{AllDiffer}
use Rattle.wf_model.specs.Grammar.{Grammar}
use Rattle.wf_model.specs.declared.event.Event.{Event}
use Rattle.wf_model.specs.declared.event.RunFault.{RunFault}
use Rattle.wf_model.specs.Faults.{fault_of}
use Rattle.report_model.specs.Reports.{Report, subject_of, same_subject, about}
use Rattle.report_model.specs.Intake.{Intake, Refused, GoesOn, Stops, without_first, is_ready, ready_in, hold_beside, hold, without_ready, take_report, apply_all}
use Rattle.report_model.specs.Kept.{Kept, report_of, is_held, kept_at, let_go, IsFirstReady, AreMarked}
use Rattle.report_model.proofs.Events.{subjects_same, same_subjects}
use Rattle.report_model.proofs.Rounds.{taken_by, one_applied, one_refused}
use Rattle.wf_intake.specs.declared.standing.Standing.TheVariants.{Ready}
use Rattle.wf_intake.specs.Reported.{ReportedSeen, noted}
use Rattle.wf_intake.specs.Applied.{number_of, applied_to, applied_on, known_by, IsStanding}
use Rattle.wf_intake.specs.Intakes.{AreExpansions, AreNotApplied, WereReady, IsKeptAs, IsIntakeOf, forgetting}
use Rattle.wf_intake.specs.Rounds.{names_given, all_marked, IsOnTheWay}
use Rattle.wf_intake.proofs.Places.{one_place, held_other, subjects_left, at_all_marked, report_each, held_each, held_reports, subjects_marked, length_marked}
use Rattle.wf_intake.proofs.Marking.{made_names, marks_with, marks_after}
use Rattle.wf_intake.proofs.Noting.{IsNoted, event_noted}
use Rattle.wf_intake.proofs.OnTheWay.{one_way}
use Rattle.report_model.proofs.Events.{number_same}
use Rattle.wf_intake.proofs.KnownOn.{known_alike, or_none, known_more, held_known, none_held_on, held_without, known_without, ready_alike, ready_still, report_left, held_others, none_found, first_found, others_held, without_last}

-- marks change no subjects
expansions_marked : (names : List (List ℕ)) (kept : List Kept) → AreExpansions kept → AreExpansions (all_marked names kept)
expansions_marked names kept h j l q =
    let m = length_marked names kept in
    h j (omega (arith, l, m)) (ap (λ (r : Report). subject_of r.event) (sym (ap (λ (z : Kept). z.report) (at_all_marked names kept j) ∙ report_each names (kept_at kept j))) ∙ q)

-- nor which reports are held
module _ (names : List (List ℕ)) (kept : List Kept) (j : ℕ) where
  same_report : (kept_at (all_marked names kept) j).report ≡ (kept_at kept j).report
  same_report = ap (λ (z : Kept). z.report) (at_all_marked names kept j) ∙ report_each names (kept_at kept j)

  same_held : (kept_at (all_marked names kept) j).held ≡ (kept_at kept j).held
  same_held = ap (λ (z : Kept). z.held) (at_all_marked names kept j) ∙ held_each names (kept_at kept j)

waiting_marked : (g : Grammar) (run : List Event) (seen : ReportedSeen) (names : List (List ℕ)) (kept : List Kept) → AreNotApplied g run seen kept → AreNotApplied g run seen (all_marked names kept)
waiting_marked g run seen names kept h j l held =
    let m = length_marked names kept in
    ap (λ (z : Report). applied_on g run seen z.event) (same_report names kept j) ∙ h j (omega (arith, l, m)) (sym (same_held names kept j) ∙ held)

gone_marked : (g : Grammar) (run : List Event) (names : List (List ℕ)) (kept : List Kept) → WereReady g run kept → WereReady g run (all_marked names kept)
gone_marked g run names kept h j l gone =
    let m = length_marked names kept in
    ap (ready_in g run) (same_report names kept j) ∙ h j (omega (arith, l, m)) (sym (same_held names kept j) ∙ gone)

-- what was ready stays so after an event
gone_still : (g : Grammar) (run : List Event) (e : Event) (kept : List Kept) → AreExpansions kept → WereReady g run kept → WereReady g (run ++ e ∷ []) kept
gone_still g run e kept expansions h j l gone = ready_still g run e (kept_at kept j).report.event (expansions j l) (h j l gone)

-- what is known on the subject of the event of a report, and on others
known_with : (g : Grammar) (run : List Event) (seen : ReportedSeen) (line : ℕ) (e : Event) (next : ReportedSeen) → IsNoted g run seen line e next → (x : Event) (known kept now : Option Report) → (before : Option Report) →
    before ≡ option_or (applied_on g run seen x) kept → (same_subject e x ≡ false → now ≡ kept) → (same_subject e x ≡ true → known ≡ Some (record { line = line; event = e })) → (same_subject e x ≡ false → known ≡ before) →
    known ≡ option_or (applied_on g (run ++ e ∷ []) next x) now
known_with g run seen line e next n x known kept now before b m itself other = go (same_subject e x) refl
  where
    go : (t : Bool) → same_subject e x ≡ t → known ≡ option_or (applied_on g (run ++ e ∷ []) next x) now
    go true q = itself q ∙ ap (λ o. option_or o now) (sym (n.itself (subject_of x) (sym (subjects_same e x q))))
    go false q =
        other q ∙ (b ∙
        (ap (λ o. option_or o kept) (sym (n.others (subject_of x) (λ z. true≢false (sym (same_subjects e x (sym z)) ∙ q)))) ∙
        ap (option_or (applied_on g (run ++ e ∷ []) next x)) (sym (m q))))

-- a report whose event is ready comes in, and none on its subject was applied
module _ (g : Grammar) (most : ℕ) (kept : List Kept) (seen : ReportedSeen) (IsRun : List Event → Type 0) (s : Intake) (here : IsIntakeOf g kept seen IsRun s) (line : ℕ) (e : Event) (number : Option ℕ) (stands : IsStanding g s.run seen e (Ready number)) where
  abbrev r : Report
  r = record { line = line; event = e }

  abbrev beside : Intake
  beside = record { run = s.run; held = s.held ++ r ∷ []; known = s.known ++ r ∷ [] }

  -- no report that is held is about the same
  apart : (k : ℕ) → k < length kept → (kept_at kept k).held ≡ true → subject_of (kept_at kept k).report.event ≡ subject_of e → ⊥
  apart k l h q = here.none_ready k l h (here.parts.marks k l h ∙ (ready_alike g s.run (kept_at kept k).report.event e q ∙ stands.1))

  unknown : find (about e) s.known ≡ None
  unknown = here.parts.known e ∙ (ap (λ o. option_or o (find (about e) s.held)) stands.0 ∙ (ap (find (about e)) here.parts.held ∙ none_held_on kept e apart))

  pub goes_beside : hold s r ≡ GoesOn beside
  goes_beside = ap (hold_beside s r) unknown

  taken : take_report g most s r ≡ apply_all g most beside
  taken = taken_by g most s r (GoesOn beside) goes_beside

  none_before : find (ready_in g s.run) s.held ≡ None
  none_before = ap (find (ready_in g s.run)) here.parts.held ∙ none_found g s.run kept here.parts.marks here.none_ready

  found : find (ready_in g s.run) beside.held ≡ Some r
  found = find-append (ready_in g s.run) s.held (r ∷ []) ∙ (ap (λ o. option_or o (cond (is_ready g s.run e) (Some r) None)) none_before ∙ ap (λ b. cond {A = Option Report} b (Some r) None) stands.1)

  -- the run refuses its event
  pub ready_refused : (f : RunFault) → fault_of g most s.run e ≡ Some f → take_report g most s r ≡ Stops (without_ready g beside) (Refused line f)
  ready_refused f q = taken ∙ one_refused g most beside r f found q

  module _ (extends : fault_of g most s.run e ≡ None) where
    abbrev next : ReportedSeen
    next = noted seen number line e

    abbrev later : Intake
    later = record { run = s.run ++ e ∷ []; held = s.held; known = s.known ++ r ∷ [] }

    -- or takes it
    pub ready_applied : take_report g most s r ≡ apply_all g most later
    ready_applied =
        taken ∙ (one_applied g most beside r found extends ∙
        ap (λ h. apply_all g most (record { run = s.run ++ e ∷ []; held = h; known = s.known ++ r ∷ [] })) (without_last (ready_in g s.run) s.held r none_before stands.1))

    -- which is one round
    pub ready_way : IsOnTheWay g most beside later
    ready_way = subst (λ h. IsOnTheWay g most beside (record { run = s.run ++ e ∷ []; held = h; known = s.known ++ r ∷ [] })) (without_last (ready_in g s.run) s.held r none_before stands.1) (one_way g most beside r found extends)

    noted_so : IsNoted g s.run seen line e next
    noted_so = event_noted g most s.run seen here.parts.fits number line e stands.2 stands.1 extends

    pub ready_parts : (IsLater : List Event → Type 0) → IsLater (s.run ++ e ∷ []) → IsKeptAs g (all_marked (names_given e) kept) next IsLater later
    ready_parts IsLater run = record {
      run = run;
      held = here.parts.held ∙ sym (held_reports (names_given e) kept);
      known = λ x. known_with g s.run seen line e next noted_so x (find (about x) (s.known ++ r ∷ [])) (find (about x) s.held) (find (about x) s.held) (find (about x) s.known) (here.parts.known x) (λ _. refl)
          (λ q. known_more s.known r x ∙ (ap (λ o. option_or o (cond (same_subject e x) (Some r) None)) (known_alike s.known x e (sym (subjects_same e x q)) ∙ unknown) ∙ ap (λ b. cond {A = Option Report} b (Some r) None) q))
          (λ q. known_more s.known r x ∙ (ap (λ b. option_or (find (about x) s.known) (cond b (Some r) None)) q ∙ or_none (find (about x) s.known)));
      marks = marks_with g s.run e kept here.parts.marks here.parts.expansions (names_given e) (made_names g most s.run e extends);
      subjects = subst AllDiffer (sym (subjects_marked (names_given e) kept)) here.parts.subjects;
      expansions = expansions_marked (names_given e) kept here.parts.expansions;
      waiting = waiting_marked g (s.run ++ e ∷ []) next (names_given e) kept (λ k l h. noted_so.others (subject_of (kept_at kept k).report.event) (apart k l h) ∙ here.parts.waiting k l h);
      gone = gone_marked g (s.run ++ e ∷ []) (names_given e) kept (gone_still g s.run e kept here.parts.expansions here.parts.gone);
      fits = noted_so.fits;
    }

-- the first held report that is ready is let go
module _ (g : Grammar) (most : ℕ) (kept : List Kept) (seen : ReportedSeen) (IsRun : List Event → Type 0) (s : Intake) (here : IsKeptAs g kept seen IsRun s) (k : ℕ) (first : IsFirstReady kept k) where
  abbrev report : Report
  report = (kept_at kept k).report

  abbrev left : List Kept
  left = slice_set kept k (let_go (kept_at kept k))

  first_held : find (ready_in g s.run) s.held ≡ Some report
  first_held = ap (find (ready_in g s.run)) here.held ∙ first_found g s.run kept here.marks k first

  -- the run refuses its event
  pub next_refused : (f : RunFault) → fault_of g most s.run report.event ≡ Some f → apply_all g most s ≡ Stops (without_ready g s) (Refused report.line f)
  next_refused f q = one_refused g most s report f first_held q

  -- without it the others are held
  others : without_first (ready_in g s.run) s.held ≡ map report_of (filter is_held left)
  others = ap (without_first (ready_in g s.run)) here.held ∙ others_held g s.run kept here.marks k first

  not_applied : applied_on g s.run seen report.event ≡ None
  not_applied = here.waiting k first.within first.held

  is_ready_now : ready_in g s.run report ≡ true
  is_ready_now = sym (here.marks k first.within first.held) ∙ first.ready

  within : (j : ℕ) → j < length left → j < length kept
  within j l = let m = length-set kept k (let_go (kept_at kept k)) in omega (arith, l, m)

  -- another that is held was so before
  other_left : (j : ℕ) → (kept_at left j).held ≡ true → ((kept_at kept j).held ≡ true) × (j ≡ k → ⊥)
  other_left j h = let o = held_other kept k j (let_go (kept_at kept k)) refl h in (ap (λ (z : Kept). z.held) (sym o.0) ∙ h, o.1)

  -- and it is about something else
  apart_left : (j : ℕ) → j < length left → (kept_at left j).held ≡ true → subject_of (kept_at kept j).report.event ≡ subject_of report.event → ⊥
  apart_left j l h q = (other_left j h).1 (one_place kept here.subjects j k (within j l) first.within q)

  -- none of the others that are held is about the same
  none_on_it : (x : Event) → same_subject report.event x ≡ true → find (about x) (map report_of (filter is_held left)) ≡ None
  none_on_it x q = none_held_on left x (λ j l h z. apart_left j l h (ap (λ (y : Report). subject_of y.event) (sym (report_left kept k j)) ∙ (z ∙ sym (subjects_same report.event x q))))

  expansions_left : AreExpansions left
  expansions_left j l q = here.expansions j (within j l) (ap (λ (z : Report). subject_of z.event) (sym (report_left kept k j)) ∙ q)

  waiting_left : AreNotApplied g s.run seen left
  waiting_left j l h = ap (λ (z : Report). applied_on g s.run seen z.event) (report_left kept k j) ∙ here.waiting j (within j l) (other_left j h).0

  -- each that is held no longer was ready: the others before, and this one now
  gone_left : WereReady g s.run left
  gone_left j l h = go (j == k) refl
    where
      go : (b : Bool) → j == k ≡ b → ready_in g s.run (kept_at left j).report ≡ true
      go true q = let e : j ≡ k = grind (arith, nat_tests) in ap (ready_in g s.run) (report_left kept k j ∙ ap (λ m. (kept_at kept m).report) e) ∙ is_ready_now
      go false q =
          let n : j ≡ k → ⊥ = λ e. true≢false (sym (ap (λ m. m == k) e ∙ number_same k) ∙ q) in
          ap (ready_in g s.run) (report_left kept k j) ∙ here.gone j (within j l) (sym (held_others kept k j n) ∙ h)

  marks_left : AreMarked g s.run left
  marks_left j l h =
      let o = held_other kept k j (let_go (kept_at kept k)) refl h in
      ap (λ (z : Kept). z.ready) o.0 ∙ (here.marks j (within j l) (other_left j h).0 ∙ ap (λ (z : Kept). ready_in g s.run z.report) (sym o.0))

  -- where the report is refused, the parts are those of the state without it
  pub refused_parts : (IsLater : List Event → Type 0) → IsLater s.run → IsKeptAs g left seen IsLater (forgetting g s report.event)
  refused_parts IsLater run = record {
    run = run;
    held = others;
    known = λ x. known_without report.event x s.known ∙ known_left x (same_subject report.event x) refl;
    marks = marks_left;
    subjects = subst AllDiffer (sym (subjects_left kept k)) here.subjects;
    expansions = expansions_left;
    waiting = waiting_left;
    gone = gone_left;
    fits = here.fits;
  }
    where
      known_left : (x : Event) (b : Bool) → same_subject report.event x ≡ b → cond (same_subject report.event x) None (find (about x) s.known) ≡ known_by g s.run seen (without_first (ready_in g s.run) s.held) x
      known_left x true q =
          ap (λ c. cond {A = Option Report} c None (find (about x) s.known)) q ∙ sym
          (ap (λ o. option_or o (find (about x) (without_first (ready_in g s.run) s.held))) (ap (applied_to g s.run seen) (sym (subjects_same report.event x q)) ∙ not_applied) ∙
          (ap (find (about x)) others ∙ none_on_it x q))
      known_left x false q =
          ap (λ c. cond {A = Option Report} c None (find (about x) s.known)) q ∙ (here.known x ∙
          ap (option_or (applied_on g s.run seen x)) (ap (find (about x)) here.held ∙ (sym (held_without kept k x first.within q) ∙ ap (find (about x)) (sym others))))

  module _ (extends : fault_of g most s.run report.event ≡ None) where
    abbrev then_state : Intake
    then_state = record { run = s.run ++ report.event ∷ []; held = map report_of (filter is_held left); known = s.known }

    -- or takes it
    pub next_applied : apply_all g most s ≡ apply_all g most then_state
    next_applied =
        one_applied g most s report first_held extends ∙
        ap (λ h. apply_all g most (record { run = s.run ++ report.event ∷ []; held = h; known = s.known })) others

    -- which is one round
    pub next_way : IsOnTheWay g most s then_state
    next_way = subst (λ h. IsOnTheWay g most s (record { run = s.run ++ report.event ∷ []; held = h; known = s.known })) others (one_way g most s report first_held extends)

  module _ (extends : fault_of g most s.run report.event ≡ None) (number : Option ℕ) (numbered : number ≡ number_of g s.run report.event) where
    abbrev then_seen : ReportedSeen
    then_seen = noted seen number report.line report.event

    then_noted : IsNoted g s.run seen report.line report.event then_seen
    then_noted = event_noted g most s.run seen here.fits number report.line report.event numbered is_ready_now extends

    -- none of the others is applied
    then_waiting : AreNotApplied g (s.run ++ report.event ∷ []) then_seen left
    then_waiting j l h =
        ap (λ (z : Report). applied_on g (s.run ++ report.event ∷ []) then_seen z.event) (report_left kept k j) ∙ (then_noted.others (subject_of (kept_at kept j).report.event) (apart_left j l h) ∙
        here.waiting j (within j l) (other_left j h).0)

    pub next_parts : (IsLater : List Event → Type 0) → IsLater (s.run ++ report.event ∷ []) → IsKeptAs g (all_marked (names_given report.event) left) then_seen IsLater (then_state extends)
    next_parts IsLater run = record {
      run = run;
      held = sym (held_reports (names_given report.event) left);
      known = λ x. known_with g s.run seen report.line report.event then_seen then_noted x (find (about x) s.known) (find (about x) s.held) (find (about x) (map report_of (filter is_held left))) (find (about x) s.known) (here.known x)
          (λ q. held_without kept k x first.within q ∙ ap (find (about x)) (sym here.held))
          (λ q. known_alike s.known x report.event (sym (subjects_same report.event x q)) ∙
          (here.known report.event ∙ (ap (λ o. option_or o (find (about report.event) s.held)) not_applied ∙ (ap (find (about report.event)) here.held ∙ held_known kept k first.within first.held here.subjects))))
          (λ q. refl);
      marks = marks_after g s.run kept here.marks here.subjects k first (names_given report.event) (made_names g most s.run report.event extends);
      subjects = subst AllDiffer (sym (subjects_marked (names_given report.event) left ∙ subjects_left kept k)) here.subjects;
      expansions = expansions_marked (names_given report.event) left expansions_left;
      waiting = waiting_marked g (s.run ++ report.event ∷ []) then_seen (names_given report.event) left then_waiting;
      gone = gone_marked g (s.run ++ report.event ∷ []) (names_given report.event) left (gone_still g s.run report.event left expansions_left gone_left);
      fits = then_noted.fits;
    }
