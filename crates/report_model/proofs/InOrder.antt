-- Reports of an accepted run in its own order: each is applied when it comes.
use Rattle.std.proofs.Common.{◌≡◌, ◌≢◌, ℕ, ◌+◌, ◌≤◌, Bool, true, false, cond, List, [], ◌∷◌, ◌++◌, length, Option, Some, None, refl, sym, ap, ◌∙◌, subst, inl, arith, append_assoc, append-nil, length-append}
use Rattle.std.specs.List.{find}
use Rattle.std.proofs.lemmas.List.{map-append}
use Rattle.wf_model.specs.Lists.{IsIn}
use Rattle.wf_model.specs.Grammar.{Grammar}
use Rattle.wf_model.specs.declared.event.Event.{Event}
use Rattle.wf_model.specs.declared.event.Event.TheVariants.{Start, Expand}
use Rattle.wf_model.specs.declared.event.RunFault.{RunFault}
use Rattle.wf_model.specs.Run.{made, names_of, Extends, IsAccepted}
use Rattle.wf_model.specs.Faults.{is_nil, fault_of}
use Rattle.wf_model.proofs.Lists.{in_append_left, in_append_right, among_from}
use Rattle.wf_model.proofs.Runs.{made-append, name_in, AllExtend-append}
use Rattle.wf_model.proofs.Taking.{taking_law}
use Rattle.label_model.proofs.Differing.{differ_parts}
use Rattle.report_model.specs.Reports.{Report, reported, same_event, about}
use Rattle.report_model.specs.Intake.{Intake, Conflict, GoesOn, Stops, and_then, is_ready, hold_beside, apply_unless, apply_one, apply_ready, take_report, take_reports, end_with}
use Rattle.report_model.specs.Laws.{state_of, InOrderLaw, IsTakenAlone, TakenAloneLaw}
use Rattle.report_model.proofs.Events.{event_same, same_itself, one_subject, events_differ}
use Rattle.report_model.proofs.FirstOnes.{report_in, reported-more, taken_out}
use Rattle.report_model.proofs.Ready.{names_within}

-- events that are not the same
other_event : (x y : Event) → x ≢ y → same_event x y ≡ false
other_event x y n = go (same_event x y) refl
  where
    go : (b : Bool) → same_event x y ≡ b → same_event x y ≡ false
    go false e = e
    go true e = absurd (n (event_same x y e))

-- a report that comes while none is held
module _ (g : Grammar) (most : ℕ) (run : List Event) (known : List Report) (r : Report) where
  abbrev held_alone : Intake
  held_alone = state_of run (r ∷ []) (known ++ r ∷ [])

  -- what is left where it is taken out, if it is ready
  abbrev taken_from : Bool → Intake
  taken_from ready = state_of run (cond ready [] (r ∷ [])) (known ++ r ∷ [])

  beside : (o : Option Report) → find (about r.event) known ≡ o → take_report g most (state_of run [] known) r ≡ and_then (hold_beside (state_of run [] known) r o) (λ t. apply_ready g most (length t.held) t)
  beside o q = ap (λ o. and_then (hold_beside (state_of run [] known) r o) (λ t. apply_ready g most (length t.held) t)) q

  when_ready : find (about r.event) known ≡ None → is_ready g run r.event ≡ true → (f : Option RunFault) → fault_of g most run r.event ≡ f →
      take_report g most (state_of run [] known) r ≡ apply_unless (apply_ready g most 0) (taken_from true) r f
  when_ready q ready f e =
      beside None q ∙ (ap (λ b. apply_one g most (apply_ready g most 0) held_alone (cond b (Some r) None)) ready ∙
      (ap (λ o. apply_unless (apply_ready g most 0) (taken_from (is_ready g run r.event)) r o) e ∙ ap (λ b. apply_unless (apply_ready g most 0) (taken_from b) r f) ready))

  taken_alone : IsTakenAlone g most run known r
  taken_alone = record {
    applied = λ q ready e. when_ready q ready None e;
    refused = λ q ready f e. when_ready q ready (Some f) e;
    waits = λ q ready. beside None q ∙ ap (λ b. apply_one g most (apply_ready g most 0) held_alone (cond b (Some r) None)) ready;
    repeated = λ k q e. beside (Some k) q ∙ ap (λ b. and_then (cond b (GoesOn (state_of run [] known)) (Stops (state_of run [] known) (Conflict r.line k.line))) (λ t. apply_ready g most (length t.held) t)) (ap (λ z. same_event z r.event) e ∙ same_itself r.event);
    contradicts = λ k q n. beside (Some k) q ∙ ap (λ b. and_then (cond b (GoesOn (state_of run [] known)) (Stops (state_of run [] known) (Conflict r.line k.line))) (λ t. apply_ready g most (length t.held) t)) (other_event k.event r.event n);
  }

pub taken_alone_law : TakenAloneLaw
taken_alone_law g most run known r = taken_alone g most run known r

-- the state where each report was applied when it came
abbrev all_applied : List Report → Intake
all_applied done = state_of (reported done) [] done

ready_where_taken : (g : Grammar) (run : List Event) (x : Event) → Extends g g.start run x → is_ready g run x ≡ true
ready_where_taken g run (Start r) h = ap is_nil h.0
ready_where_taken g run (Expand i p names) h = among_from i (names_of (made g g.start run)) (name_in _ (made g g.start run) h.stands)

-- what an accepted run begins with is accepted, without and with the next event
accepted_next : (g : Grammar) (most : ℕ) (a : List Event) (x : Event) (b : List Event) → IsAccepted g most (a ++ x ∷ b) → IsAccepted g most a × IsAccepted g most (a ++ x ∷ [])
accepted_next g most a x b acc =
    let parts = AllExtend-append g g.start [] a (x ∷ b) acc.0 in
    let whole : a ++ x ∷ b ≡ (a ++ x ∷ []) ++ b = sym (append_assoc a (x ∷ []) b) in
    let more = (AllExtend-append g g.start [] (a ++ x ∷ []) b (subst (λ z. IsAccepted g most z) whole acc).0).0 in
    let l : length (made g g.start (a ++ x ∷ b)) ≡ length (made g g.start a) + length (made g g.start (x ∷ b)) = ap length (made-append g g.start a (x ∷ b)) ∙ length-append (made g g.start a) (made g g.start (x ∷ b)) in
    let k : length (made g g.start (a ++ x ∷ b)) ≡ length (made g g.start (a ++ x ∷ [])) + length (made g g.start b) =
    ap (λ z. length (made g g.start z)) whole ∙ (ap length (made-append g g.start (a ++ x ∷ []) b) ∙ length-append (made g g.start (a ++ x ∷ [])) (made g g.start b)) in
    let few : length (made g g.start (a ++ x ∷ b)) ≤ most = acc.1 in (
      (parts.0, omega (arith, l, few), λ n h. acc.2 n (names_within g g.start a (a ++ x ∷ b) (λ y i. in_append_left y a (x ∷ b) i) n h)),
      (more, omega (arith, k, few), λ n h. acc.2 n (names_within g g.start (a ++ x ∷ []) (a ++ x ∷ b) (λ y i. subst (IsIn y) (sym whole) (in_append_left y (a ++ x ∷ []) b i)) n h)),
    )

module _ (g : Grammar) (most : ℕ) where
  -- the next report is applied
  applied_next : (done : List Report) (r : Report) (more : List Report) → IsAccepted g most (reported (done ++ r ∷ more)) → take_report g most (all_applied done) r ≡ GoesOn (all_applied (done ++ r ∷ []))
  applied_next done r more acc =
      (taken_alone g most run done r).applied (unknown (find (about x) done) refl) (ready_where_taken g run x (AllExtend-append g g.start [] run (x ∷ reported more) acc_here.0).1.0) no_fault ∙
      ap (λ (z : List Event). GoesOn (state_of z [] (done ++ r ∷ []))) (sym (reported-more done r))
    where
      x : Event
      x = r.event

      run : List Event
      run = reported done

      acc_here : IsAccepted g most (run ++ x ∷ reported more)
      acc_here = subst (IsAccepted g most) (map-append (λ (k : Report). k.event) done (r ∷ more)) acc

      apart : IsIn x run → ⊥
      apart h = (differ_parts run (x ∷ reported more) (events_differ g g.start [] (run ++ x ∷ reported more) acc_here.0)).2 x h (inl refl)

      unknown : (o : Option Report) → find (about x) done ≡ o → find (about x) done ≡ None
      unknown None q = q
      unknown (Some k) q =
          let t = taken_out (about x) done k q in
          let there : IsIn k.event run = report_in k done t.here in
          absurd (apart (subst (λ z. IsIn z run) (one_subject g g.start (run ++ x ∷ reported more) acc_here.0 k.event x (in_append_left k.event run (x ∷ reported more) there) (in_append_right x run (x ∷ reported more) (inl refl)) t.passes) there))

      no_fault : fault_of g most run x ≡ None
      no_fault = let two = accepted_next g most run x (reported more) acc_here in (taking_law g most run x two.0).1 two.1

  applied_all : (rs done : List Report) → IsAccepted g most (reported (done ++ rs)) → take_reports g most (all_applied done) rs ≡ GoesOn (all_applied (done ++ rs))
  applied_all [] done acc = ap (λ z. GoesOn (all_applied z)) (sym (append-nil done))
  applied_all (r ∷ rs) done acc =
      let whole : (done ++ r ∷ []) ++ rs ≡ done ++ r ∷ rs = append_assoc done (r ∷ []) rs in
      ap (λ u. and_then u (λ t. take_reports g most t rs)) (applied_next done r rs acc) ∙
      (applied_all rs (done ++ r ∷ []) (subst (λ z. IsAccepted g most (reported z)) (sym whole) acc) ∙ ap (λ z. GoesOn (all_applied z)) whole)

pub in_order_law : InOrderLaw
in_order_law g most rs acc = ap (λ u. and_then u (λ t. end_with t t.held)) (applied_all g most rs [] acc)
