-- More reports leave what was applied as it was.
use Rattle.std.proofs.Common.{◌≡◌, ℕ, zero, suc, Bool, true, false, cond, List, [], ◌∷◌, ◌++◌, length, Option, Some, None, refl, sym, ap, ◌∙◌, append_assoc, append-nil}
use Rattle.std.specs.List.{find}
use Rattle.wf_model.specs.Grammar.{Grammar}
use Rattle.wf_model.specs.declared.event.Event.{Event}
use Rattle.wf_model.specs.declared.event.RunFault.{RunFault}
use Rattle.wf_model.specs.Faults.{fault_of}
use Rattle.report_model.specs.Reports.{Report, same_event, about}
use Rattle.report_model.specs.Intake.{Intake, nothing_taken, Conflict, Taking, GoesOn, Stops, state_after, and_then, ready_in, hold_beside, hold, apply_unless, without_ready, apply_one, apply_ready, take_report, take_reports, end_with, intake}
use Rattle.report_model.specs.Laws.{GrowingLaw}

-- the run of what is taken goes on from this run
abbrev GoesFrom : List Event → Taking → Type 0
GoesFrom run u = (later : List Event) × ((state_after u).run ≡ run ++ later)

from_itself : (s : Intake) (run : List Event) → s.run ≡ run → (later : List Event) × (s.run ≡ run ++ later)
from_itself s run e = ([], e ∙ sym (append-nil run))

then_further : (run : List Event) (u : Taking) (next : Intake → Taking) → GoesFrom run u → ((s : Intake) → GoesFrom s.run (next s)) → GoesFrom run (and_then u next)
then_further run (GoesOn s) next h k = let a = k s in (h.0 ++ a.0, a.1 ∙ (ap (λ z. z ++ a.0) h.1 ∙ append_assoc run h.0 a.0))
then_further run (Stops s f) next h k = h

then_further_on : (u : Taking) (next : Intake → Taking) → ((s : Intake) → GoesFrom s.run (next s)) → GoesFrom (state_after u).run (and_then u next)
then_further_on (GoesOn s) next k = k s
then_further_on (Stops s f) next k = from_itself s s.run refl

hold_grows : (s : Intake) (r : Report) → GoesFrom s.run (hold s r)
hold_grows s r = go (find (about r.event) s.known)
  where
    beside : (k : Report) (b : Bool) → GoesFrom s.run (cond b (GoesOn s) (Stops s (Conflict r.line k.line)))
    beside k true = from_itself s s.run refl
    beside k false = from_itself s s.run refl

    go : (o : Option Report) → GoesFrom s.run (hold_beside s r o)
    go None = from_itself (record { run = s.run; held = s.held ++ r ∷ []; known = s.known ++ r ∷ [] }) s.run refl
    go (Some k) = beside k (same_event k.event r.event)

module _ (g : Grammar) (most : ℕ) where
  apply_grows : (n : ℕ) (s : Intake) → GoesFrom s.run (apply_ready g most n s)
  apply_grows zero s = from_itself s s.run refl
  apply_grows (suc n) s = go (apply_grows n) (find (ready_in g s.run) s.held)
    where
      by_fault : ((t : Intake) → GoesFrom t.run (apply_ready g most n t)) → (r : Report) (f : Option RunFault) → GoesFrom s.run (apply_unless (apply_ready g most n) (without_ready g s) r f)
      by_fault ih r None = let a = ih _ in (r.event ∷ a.0, a.1 ∙ append_assoc s.run (r.event ∷ []) a.0)
      by_fault ih r (Some f) = from_itself (without_ready g s) s.run refl

      go : ((t : Intake) → GoesFrom t.run (apply_ready g most n t)) → (o : Option Report) → GoesFrom s.run (apply_one g most (apply_ready g most n) s o)
      go ih None = from_itself s s.run refl
      go ih (Some r) = by_fault ih r (fault_of g most s.run r.event)

  pub report_grows : (s : Intake) (r : Report) → GoesFrom s.run (take_report g most s r)
  report_grows s r = then_further s.run (hold s r) _ (hold_grows s r) (λ t. apply_grows (length t.held) t)

  pub reports_grow : (reports : List Report) (s : Intake) → GoesFrom s.run (take_reports g most s reports)
  reports_grow [] s = from_itself s s.run refl
  reports_grow (r ∷ reports) s = then_further s.run (take_report g most s r) _ (report_grows s r) (λ t. reports_grow reports t)

  then-then : (u : Taking) (a b : Intake → Taking) → and_then u (λ t. and_then (a t) b) ≡ and_then (and_then u a) b
  then-then (GoesOn s) a b = refl
  then-then (Stops s f) a b = refl

  then_same : (u : Taking) (a b : Intake → Taking) → ((t : Intake) → a t ≡ b t) → and_then u a ≡ and_then u b
  then_same (GoesOn s) a b h = h s
  then_same (Stops s f) a b h = refl

  -- reports in two parts
  pub in_parts : (reports more : List Report) (s : Intake) → take_reports g most s (reports ++ more) ≡ and_then (take_reports g most s reports) (λ t. take_reports g most t more)
  in_parts [] more s = refl
  in_parts (r ∷ reports) more s =
      then_same (take_report g most s r) _ _ (λ t. in_parts reports more t) ∙ then-then (take_report g most s r) (λ t. take_reports g most t reports) (λ t. take_reports g most t more)

  -- the end of the reports leaves the state as it is
  ended : (s : Intake) (held : List Report) → state_after (end_with s held) ≡ s
  ended s [] = refl
  ended s (r ∷ held) = refl

  then_ended : (u : Taking) → state_after (and_then u (λ s. end_with s s.held)) ≡ state_after u
  then_ended (GoesOn s) = ended s s.held
  then_ended (Stops s f) = refl

  pub at_end : (reports : List Report) → state_after (intake g most reports) ≡ state_after (take_reports g most nothing_taken reports)
  at_end reports = then_ended (take_reports g most nothing_taken reports)

pub growing_law : GrowingLaw
growing_law = record {
  from = λ g most s reports more.
      let e = in_parts g most reports more s in
      let a = then_further_on (take_reports g most s reports) (λ t. take_reports g most t more) (λ t. reports_grow g most more t) in
      record { from = e; begins = (a.0, ap (λ u. (state_after u).run) e ∙ a.1) };
  end = at_end;
}
