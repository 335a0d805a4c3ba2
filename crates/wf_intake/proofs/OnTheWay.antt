-- States that are come to by rounds.
use Rattle.std.proofs.Common.{◌≡◌, ℕ, zero, suc, Bool, true, false, cond, Option, Some, None, refl, ap, ◌∙◌}
use Rattle.std.specs.List.{find}
use Rattle.wf_model.specs.Grammar.{Grammar}
use Rattle.wf_model.specs.declared.event.RunFault.{RunFault}
use Rattle.wf_model.specs.Faults.{fault_of}
use Rattle.report_model.specs.Reports.{Report, same_event, about}
use Rattle.report_model.specs.Intake.{Intake, Conflict, GoesOn, Stops, state_after, ready_in, hold_beside, hold, apply_unless, without_ready, apply_one, apply_ready, apply_all}
use Rattle.report_model.proofs.Rounds.{after_event, one_applied}
use Rattle.wf_intake.specs.Rounds.{IsOnTheWay}

module _ (g : Grammar) (most : ℕ) where
  -- rounds after others
  rounds_on : (m n : ℕ) (s t u : Intake) → apply_ready g most m s ≡ GoesOn t → apply_ready g most n t ≡ GoesOn u → IsOnTheWay g most s u
  rounds_on zero n s t u e f = let w : s ≡ t = cc in record { rounds = n; go_on = ap (apply_ready g most n) w ∙ f }
  rounds_on (suc m) n s t u e f = go (rounds_on m n) (find (ready_in g s.run) s.held) refl e
    where
      go : ((s t u : Intake) → apply_ready g most m s ≡ GoesOn t → apply_ready g most n t ≡ GoesOn u → IsOnTheWay g most s u) → (o : Option Report) → find (ready_in g s.run) s.held ≡ o →
          apply_one g most (apply_ready g most m) s o ≡ GoesOn t → IsOnTheWay g most s u
      go ih None q h = let w : s ≡ t = cc in record { rounds = n; go_on = ap (apply_ready g most n) w ∙ f }
      go ih (Some r) q h = by_fault (fault_of g most s.run r.event) refl h
        where
          by_fault : (o : Option RunFault) → fault_of g most s.run r.event ≡ o → apply_unless (apply_ready g most m) (without_ready g s) r o ≡ GoesOn t → IsOnTheWay g most s u
          by_fault None k h = let w = ih (after_event g s r.event) t u h f in record {
            rounds = suc w.rounds;
            go_on = ap (apply_one g most (apply_ready g most w.rounds) s) q ∙ (ap (apply_unless (apply_ready g most w.rounds) (without_ready g s) r) k ∙ w.go_on);
          }
          by_fault (Some x) k h = absurd (cc)

  pub way_on : (s t u : Intake) → IsOnTheWay g most s t → IsOnTheWay g most t u → IsOnTheWay g most s u
  way_on s t u a b = rounds_on a.rounds b.rounds s t u a.go_on b.go_on

  -- a state that is come to comes to the same
  rounds_same : (n : ℕ) (s t : Intake) → apply_ready g most n s ≡ GoesOn t → apply_all g most s ≡ apply_all g most t
  rounds_same zero s t e = let w : s ≡ t = cc in ap (apply_all g most) w
  rounds_same (suc n) s t e = go (rounds_same n) (find (ready_in g s.run) s.held) refl e
    where
      go : ((s t : Intake) → apply_ready g most n s ≡ GoesOn t → apply_all g most s ≡ apply_all g most t) → (o : Option Report) → find (ready_in g s.run) s.held ≡ o → apply_one g most (apply_ready g most n) s o ≡ GoesOn t → apply_all g most s ≡ apply_all g most t
      go ih None q h = let w : s ≡ t = cc in ap (apply_all g most) w
      go ih (Some r) q h = by_fault (fault_of g most s.run r.event) refl h
        where
          by_fault : (o : Option RunFault) → fault_of g most s.run r.event ≡ o → apply_unless (apply_ready g most n) (without_ready g s) r o ≡ GoesOn t → apply_all g most s ≡ apply_all g most t
          by_fault None k h = one_applied g most s r q k ∙ ih (after_event g s r.event) t h
          by_fault (Some x) k h = absurd (cc)

  pub way_same : (s t : Intake) → IsOnTheWay g most s t → apply_all g most s ≡ apply_all g most t
  way_same s t a = rounds_same a.rounds s t a.go_on

  -- no rounds
  pub no_way : (s : Intake) → IsOnTheWay g most s s
  no_way s = record { rounds = 0; go_on = refl }

  -- one round: the first report that is ready has no fault
  pub one_way : (s : Intake) (r : Report) → find (ready_in g s.run) s.held ≡ Some r → fault_of g most s.run r.event ≡ None → IsOnTheWay g most s (after_event g s r.event)
  one_way s r q k = record {
    rounds = 1;
    go_on = ap (apply_one g most (apply_ready g most 0) s) q ∙ ap (apply_unless (apply_ready g most 0) (without_ready g s) r) k;
  }

-- the first part of taking a report leaves the run
pub held_run : (s : Intake) (r : Report) → (state_after (hold s r)).run ≡ s.run
held_run s r = go (find (about r.event) s.known)
  where
    go : (o : Option Report) → (state_after (hold_beside s r o)).run ≡ s.run
    go None = refl
    go (Some k) = by_event (same_event k.event r.event)
      where
        by_event : (b : Bool) → (state_after (cond b (GoesOn s) (Stops s (Conflict r.line k.line)))).run ≡ s.run
        by_event true = refl
        by_event false = refl
