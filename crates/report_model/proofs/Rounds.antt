-- The rounds in which reports are applied, one by one: what a loop over them keeps.
use Rattle.std.proofs.Common.{◌≡◌, ℕ, zero, suc, ◌≤◌, false, ◌||◌, List, [], ◌∷◌, ◌++◌, length, bytes_eq, Option, Some, None, refl, sym, ap, ◌∙◌, arith}
use Rattle.std.specs.List.{find}
use Rattle.std.proofs.lemmas.List.{map-append}
use Rattle.wf_model.specs.Grammar.{Grammar, body_of}
use Rattle.wf_model.specs.declared.event.Event.{Event}
use Rattle.wf_model.specs.declared.event.Event.TheVariants.{Start, Expand}
use Rattle.wf_model.specs.declared.event.RunFault.{RunFault}
use Rattle.wf_model.specs.Run.{Instance, made, made_by, names_of}
use Rattle.wf_model.specs.Faults.{is_one_of, fault_of}
use Rattle.wf_model.proofs.Runs.{made_more, names-named}
use Rattle.wf_model.proofs.Tests.{or-assoc}
use Rattle.report_model.specs.Reports.{Report}
use Rattle.report_model.specs.Intake.{Intake, Refused, Taking, GoesOn, Stops, and_then, without_first, is_ready, ready_in, hold, apply_unless, without_ready, apply_one, apply_ready, apply_all, take_report}
use Rattle.report_model.proofs.FirstOnes.{taken_out}

-- the state after an event is applied
abbrev pub after_event : Grammar → Intake → Event → Intake
after_event g s x = record { run = s.run ++ x ∷ []; held = without_first (ready_in g s.run) s.held; known = s.known }

module _ (g : Grammar) (most : ℕ) where
  first_of_none : (s : Intake) → length s.held ≤ 0 → find (ready_in g s.run) s.held ≡ None
  first_of_none s h = go (s.held) h
    where
      go : (held : List Report) → length held ≤ 0 → find (ready_in g s.run) held ≡ None
      go [] h = refl
      go (r ∷ held) h = absurd (omega arith)

  -- more rounds than reports are held change nothing
  enough : (n m : ℕ) (s : Intake) → length s.held ≤ n → length s.held ≤ m → apply_ready g most n s ≡ apply_ready g most m s
  enough zero zero s h k = refl
  enough zero (suc m) s h k = sym (ap (apply_one g most (apply_ready g most m) s) (first_of_none s h))
  enough (suc n) zero s h k = ap (apply_one g most (apply_ready g most n) s) (first_of_none s k)
  enough (suc n) (suc m) s h k = go (enough n m) (find (ready_in g s.run) s.held) refl
    where
      go : ((t : Intake) → length t.held ≤ n → length t.held ≤ m → apply_ready g most n t ≡ apply_ready g most m t) → (o : Option Report) → find (ready_in g s.run) s.held ≡ o →
          apply_one g most (apply_ready g most n) s o ≡ apply_one g most (apply_ready g most m) s o
      go ih None q = refl
      go ih (Some r) q = by_fault (fault_of g most s.run r.event)
        where
          by_fault : (f : Option RunFault) → apply_unless (apply_ready g most n) (without_ready g s) r f ≡ apply_unless (apply_ready g most m) (without_ready g s) r f
          by_fault None = let l = (taken_out (ready_in g s.run) s.held r q).shorter in ih (after_event g s r.event) (omega (arith, l, h)) (omega (arith, l, k))
          by_fault (Some f) = refl

  -- one round more than there are reports
  one_more : (s : Intake) → apply_all g most s ≡ apply_one g most (apply_ready g most (length s.held)) s (find (ready_in g s.run) s.held)
  one_more s = enough (length s.held) (suc (length s.held)) s (omega arith) (omega arith)

  -- where none is ready, all is done
  pub all_done : (s : Intake) → find (ready_in g s.run) s.held ≡ None → apply_all g most s ≡ GoesOn s
  all_done s q = one_more s ∙ ap (apply_one g most (apply_ready g most (length s.held)) s) q

  -- where the first that is ready has no fault, its event is applied, and the others are as many rounds from their end
  pub one_applied : (s : Intake) (r : Report) → find (ready_in g s.run) s.held ≡ Some r → fault_of g most s.run r.event ≡ None → apply_all g most s ≡ apply_all g most (after_event g s r.event)
  one_applied s r q f =
      let l = (taken_out (ready_in g s.run) s.held r q).shorter in
      one_more s ∙ (ap (apply_one g most (apply_ready g most (length s.held)) s) q ∙ (ap (apply_unless (apply_ready g most (length s.held)) (without_ready g s) r) f ∙
      enough (length s.held) (length (without_first (ready_in g s.run) s.held)) (after_event g s r.event) (omega (arith, l)) (omega arith)))

  -- where it has one, its report is refused
  pub one_refused : (s : Intake) (r : Report) (f : RunFault) → find (ready_in g s.run) s.held ≡ Some r → fault_of g most s.run r.event ≡ Some f → apply_all g most s ≡ Stops (without_ready g s) (Refused r.line f)
  one_refused s r f q e =
      one_more s ∙ (ap (apply_one g most (apply_ready g most (length s.held)) s) q ∙ ap (apply_unless (apply_ready g most (length s.held)) (without_ready g s) r) e)

  -- a report is held, and all that is ready is applied
  pub taken_by : (s : Intake) (r : Report) (u : Taking) → hold s r ≡ u → take_report g most s r ≡ and_then u (apply_all g most)
  taken_by s r u e = ap (λ z. and_then z (apply_all g most)) e

-- a name is among those of two lists
one_of-append : (n : List ℕ) (xs ys : List (List ℕ)) → is_one_of (xs ++ ys) n ≡ is_one_of xs n || is_one_of ys n
one_of-append n [] ys = refl
one_of-append n (x ∷ xs) ys = ap (λ b. bytes_eq n x || b) (one_of-append n xs ys) ∙ or-assoc (bytes_eq n x) (is_one_of xs n) (is_one_of ys n)

-- no start event is ready after an event
pub start_not_ready : (g : Grammar) (run : List Event) (e : Event) (r : List ℕ) → is_ready g (run ++ e ∷ []) (Start r) ≡ false
start_not_ready g [] e r = refl
start_not_ready g (x ∷ run) e r = refl

-- after an event those expand events are ready that were so, and those of the instances that it makes
pub ready_after : (g : Grammar) (run : List Event) (e : Event) (i : List ℕ) (p : ℕ) (names : List (List ℕ)) →
    is_ready g (run ++ e ∷ []) (Expand i p names) ≡ is_ready g run (Expand i p names) || is_one_of (names_of (made_by g g.start e)) i
ready_after g run e i p names =
    ap (λ is. is_one_of (names_of is) i) (made_more g g.start run e) ∙
    (ap (λ ns. is_one_of ns i) (map-append (λ (j : Instance). j.name) (made g g.start run) (made_by g g.start e)) ∙
    one_of-append i (names_of (made g g.start run)) (names_of (made_by g g.start e)))

-- the instances that an expand event makes have the names that it gives, one for each position
pub new_names : (g : Grammar) (m : ℕ) (i : List ℕ) (p : ℕ) (names : List (List ℕ)) → length names ≡ length (body_of g p) → names_of (made_by g m (Expand i p names)) ≡ names
new_names g m i p names e = names-named names (body_of g p) e
