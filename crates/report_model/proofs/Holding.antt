-- What holds of the state of the intake after some reports, and how a report is held and applied.
use Rattle.std.proofs.Common.{◌≡◌, ◌≢◌, ◌⊎◌, ℕ, Bool, true, false, cond, List, [], ◌∷◌, ◌++◌, Option, Some, None, refl, sym, ap, ◌∙◌, subst, inl, inr, ⊎_elim, true≢false}
use Rattle.std.specs.List.{find}
use Rattle.std.specs.Option.{option_or}
use Rattle.std.proofs.lemmas.List.Folds.{find-append}
use Rattle.wf_model.specs.Lists.{IsIn, AllDiffer}
use Rattle.wf_model.specs.Grammar.{Grammar}
use Rattle.wf_model.specs.declared.event.Event.{Event}
use Rattle.wf_model.specs.Run.{IsAccepted}
use Rattle.wf_model.proofs.Lists.{in_append_left}
use Rattle.label_model.proofs.Differing.{differ-append}
use Rattle.report_model.specs.Reports.{Report, reported, subject_of, same_subject, same_event, about}
use Rattle.report_model.specs.Intake.{Intake, Conflict, Taking, GoesOn, Stops, hold_beside, hold}
use Rattle.report_model.proofs.Events.{event_same, same_itself, subject_itself, subjects_same, same_subjects}
use Rattle.report_model.proofs.FirstOnes.{report_in, report_from, reported-more, more_cases, last_in, taken_out, none_passes}

-- what holds of a state after the reports that are done, if none of them was refused
pub record Holds (g : Grammar) (most : ℕ) (done : List Report) (s : Intake) : Type 0 where
  pub accepted : IsAccepted g most s.run
  pub from : (k : Report) → IsIn k s.known → IsIn k done
  pub held_known : (k : Report) → IsIn k s.held → IsIn k s.known
  pub all_known : (k : Report) → IsIn k done → IsIn k.event (reported s.known)
  pub finds : (x : Event) → find (about x) s.known ≡ find (about x) done
  pub split : (x : Event) → IsIn x (reported s.known) → IsIn x s.run ⊎ IsIn x (reported s.held)
  pub run_known : (x : Event) → IsIn x s.run → IsIn x (reported s.known)
  pub held_new : (x : Event) → IsIn x (reported s.held) → IsIn x s.run → ⊥
  pub held_differ : AllDiffer (reported s.held)
  pub one : (x y : Event) → IsIn x (reported s.known) → IsIn y (reported s.known) → same_subject x y ≡ true → x ≡ y

-- a report is held or ignored, or it contradicts the first report that is about the same
abbrev pub AfterHold : Grammar → ℕ → List Report → Intake → Report → Taking → Type 0
AfterHold g most done s r (GoesOn t) = Holds g most (done ++ r ∷ []) t × (t.run ≡ s.run)
AfterHold g most done s r (Stops t f) = (t ≡ s) × ((k : Report) × (find (about r.event) done ≡ Some k) × (k.event ≢ r.event) × (f ≡ Conflict r.line k.line))

-- the first of a list is the first of a longer one
pub find_kept : (test : Report → Bool) (xs ys : List Report) (k : Report) → find test xs ≡ Some k → find test (xs ++ ys) ≡ Some k
find_kept test xs ys k h = find-append test xs ys ∙ ap (λ o. option_or o (find test ys)) h

-- a list with one report more that is not the first of its kind has the same first ones
find_same : (xs : List Report) (r k : Report) (x : Event) → find (about r.event) xs ≡ Some k → k.event ≡ r.event → find (about x) xs ≡ find (about x) (xs ++ r ∷ [])
find_same xs r k x h e = go (find (about x) xs) refl
  where
    last : find (about x) xs ≡ None → (b : Bool) → same_subject r.event x ≡ b → cond {A = Option Report} b (Some r) None ≡ None
    last n false q = refl
    last n true q = absurd (none_passes (about x) xs n k (taken_out (about r.event) xs k h).here (ap (λ z. same_subject z x) e ∙ q))

    go : (o : Option Report) → find (about x) xs ≡ o → find (about x) xs ≡ find (about x) (xs ++ r ∷ [])
    go (Some y) q = q ∙ sym (find_kept (about x) xs (r ∷ []) y q)
    go None q = q ∙ (sym (last q (same_subject r.event x) refl) ∙ sym (find-append (about x) xs (r ∷ []) ∙ ap (λ o. option_or o (find (about x) (r ∷ []))) q))

reported_cases : (x : Event) (rs : List Report) (r : Report) → IsIn x (reported (rs ++ r ∷ [])) → IsIn x (reported rs) ⊎ (x ≡ r.event)
reported_cases x rs r h = more_cases x r.event (reported rs) (subst (IsIn x) (reported-more rs r) h)

reported_kept : (x : Event) (rs : List Report) (r : Report) → IsIn x (reported rs) → IsIn x (reported (rs ++ r ∷ []))
reported_kept x rs r h = subst (IsIn x) (sym (reported-more rs r)) (in_append_left x (reported rs) (r.event ∷ []) h)

reported_last : (rs : List Report) (r : Report) → IsIn r.event (reported (rs ++ r ∷ []))
reported_last rs r = report_in r (rs ++ r ∷ []) (last_in r rs)

module _ (g : Grammar) (most : ℕ) (done : List Report) (s : Intake) (hs : Holds g most done s) (r : Report) where
  -- the first report that is about something is held
  first_held : find (about r.event) s.known ≡ None → Holds g most (done ++ r ∷ []) (record { run = s.run; held = s.held ++ r ∷ []; known = s.known ++ r ∷ [] })
  first_held q =
      let unknown : (x : Event) → IsIn x (reported s.known) → same_subject x r.event ≡ true → ⊥ =
      λ x h t. let w = report_from x s.known h in none_passes (about r.event) s.known q w.0 w.1 (ap (λ z. same_subject z r.event) (sym w.2) ∙ t) in
      let new : IsIn r.event (reported s.known) → ⊥ = λ h. unknown r.event h (subject_itself r.event) in
      record {
        accepted = hs.accepted;
        from = λ k h. ⊎_elim (λ a. in_append_left k done (r ∷ []) (hs.from k a)) (λ e. subst (λ z. IsIn z (done ++ r ∷ [])) (sym e) (last_in r done)) (more_cases k r s.known h);
        held_known = λ k h. ⊎_elim (λ a. in_append_left k s.known (r ∷ []) (hs.held_known k a)) (λ e. subst (λ z. IsIn z (s.known ++ r ∷ [])) (sym e) (last_in r s.known)) (more_cases k r s.held h);
        all_known = λ k h. ⊎_elim (λ a. reported_kept k.event s.known r (hs.all_known k a)) (λ e. subst (λ (z : Report). IsIn z.event (reported (s.known ++ r ∷ []))) (sym e) (reported_last s.known r)) (more_cases k r done h);
        finds = λ x. find-append (about x) s.known (r ∷ []) ∙ (ap (λ o. option_or o (find (about x) (r ∷ []))) (hs.finds x) ∙ sym (find-append (about x) done (r ∷ [])));
        split = λ x h. ⊎_elim (λ a. ⊎_elim (λ b. inl b) (λ b. inr (reported_kept x s.held r b)) (hs.split x a)) (λ e. inr (subst (λ z. IsIn z (reported (s.held ++ r ∷ []))) (sym e) (reported_last s.held r))) (reported_cases x s.known r h);
        run_known = λ x h. reported_kept x s.known r (hs.run_known x h);
        held_new = λ x h i. ⊎_elim (λ a. hs.held_new x a i) (λ e. new (hs.run_known r.event (subst (λ z. IsIn z s.run) e i))) (reported_cases x s.held r h);
        held_differ = subst AllDiffer (sym (reported-more s.held r)) (differ-append (reported s.held) (r.event ∷ []) hs.held_differ ((λ h. h), tt)
            (λ y h k. ⊎_elim (λ e. new (let w = report_from y s.held h in subst (λ z. IsIn z (reported s.known)) (sym w.2 ∙ e) (report_in w.0 s.known (hs.held_known w.0 w.1)))) (λ z. z) k));
        one = λ x y h k t. ⊎_elim
            (λ a. ⊎_elim (λ b. hs.one x y a b t) (λ e. absurd (unknown x a (ap (same_subject x) (sym e) ∙ t))) (reported_cases y s.known r k))
            (λ d. ⊎_elim (λ b. absurd (unknown y b (same_subjects y r.event (sym (subjects_same x y t) ∙ ap subject_of d)))) (λ e. d ∙ sym e) (reported_cases y s.known r k))
            (reported_cases x s.known r h);
      }

  -- a repetition is ignored
  ignored : (k : Report) → find (about r.event) s.known ≡ Some k → k.event ≡ r.event → Holds g most (done ++ r ∷ []) s
  ignored k q e =
      let t = taken_out (about r.event) s.known k q in
      record {
        accepted = hs.accepted;
        from = λ j h. in_append_left j done (r ∷ []) (hs.from j h);
        held_known = hs.held_known;
        all_known = λ j h. ⊎_elim (λ a. hs.all_known j a) (λ d. subst (λ z. IsIn z (reported s.known)) (e ∙ sym (ap (λ (z : Report). z.event) d)) (report_in k s.known t.here)) (more_cases j r done h);
        finds = λ x. hs.finds x ∙ find_same done r k x (sym (hs.finds r.event) ∙ q) e;
        split = hs.split;
        run_known = hs.run_known;
        held_new = hs.held_new;
        held_differ = hs.held_differ;
        one = hs.one;
      }

  pub held : AfterHold g most done s r (hold s r)
  held = go (find (about r.event) s.known) refl
    where
      beside : (k : Report) → find (about r.event) s.known ≡ Some k → (b : Bool) → same_event k.event r.event ≡ b → AfterHold g most done s r (cond b (GoesOn s) (Stops s (Conflict r.line k.line)))
      beside k q true e = (ignored k q (event_same k.event r.event e), refl)
      beside k q false e = (refl, (k, sym (hs.finds r.event) ∙ q, (λ d. true≢false (sym (ap (λ z. same_event z r.event) d ∙ same_itself r.event) ∙ e)), refl))

      go : (o : Option Report) → find (about r.event) s.known ≡ o → AfterHold g most done s r (hold_beside s r o)
      go None q = (first_held q, refl)
      go (Some k) q = beside k q (same_event k.event r.event) refl
