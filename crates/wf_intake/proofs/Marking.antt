-- The marks of reports that are ready, after an event is applied.
use Rattle.std.proofs.Common.{◌≡◌, ℕ, Bool, true, false, ◌||◌, List, [], ◌∷◌, ◌++◌, length, Option, None, Some, refl, sym, ap, ◌∙◌, true≢false}
use Rattle.std.specs.Prelude.{is_some}
use Rattle.std.specs.List.{slice_set}
use Rattle.wf_model.specs.Lists.{AllDiffer}
use Rattle.wf_model.specs.Grammar.{Grammar, body_of}
use Rattle.wf_model.specs.declared.event.Event.{Event}
use Rattle.wf_model.specs.declared.event.Event.TheVariants.{Start, Expand}
use Rattle.wf_model.specs.declared.event.RunFault.{RunFault}
use Rattle.wf_model.specs.Run.{Expanded, made_by, names_of, expanded_by}
use Rattle.wf_model.specs.Faults.{is_nil, is_one_of, faults_of, first_of, fault_of}
use Rattle.wf_model.proofs.Taking.{skipped, same_num}
use Rattle.report_model.specs.Reports.{subject_of}
use Rattle.report_model.specs.Intake.{is_ready, ready_in}
use Rattle.report_model.specs.Kept.{Kept, kept_at, let_go, IsFirstReady, AreMarked}
use Rattle.report_model.proofs.Rounds.{start_not_ready, ready_after, new_names}
use Rattle.wf_intake.specs.Intakes.{subjects_of, AreExpansions}
use Rattle.wf_intake.specs.Rounds.{names_given, all_marked}
use Rattle.wf_intake.proofs.Places.{held_within, one_place, held_other, each_marked, at_all_marked, report_each, held_each, holding, start_each, expand_each}

-- none of the tests of faults passes
abbrev NonePasses : List (Bool × RunFault) → Type 0
NonePasses [] = Unit {0}
NonePasses (t ∷ ts) = (t.0 ≡ false) × NonePasses ts

none_passes : (ts : List (Bool × RunFault)) → first_of ts ≡ None → NonePasses ts
none_passes [] f = tt
none_passes (t ∷ ts) f = let s = skipped (t.0) (t.1) (first_of ts) f in (s.0, none_passes ts s.1)

-- an event that has no fault makes the instances of the names that it gives
pub made_names : (g : Grammar) (most : ℕ) (run : List Event) (e : Event) → fault_of g most run e ≡ None → names_of (made_by g g.start e) ≡ names_given e
made_names g most run (Start r) f = refl
made_names g most run (Expand i p names) f =
    let none = none_passes (faults_of g most run (Expand i p names)) f in
    new_names g g.start i p names (same_num (length names) (length (body_of g p)) none.1.1.1.1.1.0)

-- and it expands an instance that is not expanded
pub not_expanded : (g : Grammar) (most : ℕ) (run : List Event) (i : List ℕ) (p : ℕ) (names : List (List ℕ)) → fault_of g most run (Expand i p names) ≡ None → expanded_by run i ≡ None
not_expanded g most run i p names f = go (expanded_by run i) (none_passes (faults_of g most run (Expand i p names)) f).1.1.1.1.0
  where
    go : (o : Option Expanded) → is_some o ≡ false → o ≡ None
    go None e = refl
    go (Some x) e = absurd (true≢false e)

-- before the first event only a start event is ready
start_first : (g : Grammar) (x : Event) → is_ready g [] x ≡ true → subject_of x ≡ None
start_first g (Start r) h = refl
start_first g (Expand i p names) h = absurd (true≢false (sym h))

-- the marks of one report
marks_of_one : (g : Grammar) (run : List Event) (e : Event) (names : List (List ℕ)) → names_of (made_by g g.start e) ≡ names →
    (line : ℕ) (x : Event) (b : Bool) → b ≡ is_ready g run x → (subject_of x ≡ None → is_nil run ≡ false) → (each_marked names (holding line x b)).ready ≡ is_ready g (run ++ e ∷ []) x
marks_of_one g run e names same line (Start r) b m n = start_each names line r b ∙ (m ∙ (n refl ∙ sym (start_not_ready g run e r)))
marks_of_one g run e names same line (Expand i p ms) b m n =
    expand_each names line i p ms b ∙
    (ap (λ z. z || is_one_of names i) m ∙
    (ap (λ z. is_ready g run (Expand i p ms) || is_one_of z i) (sym same) ∙ sym (ready_after g run e i p ms)))

-- where an event is applied, the marks of reports of expand events are right again
pub marks_with : (g : Grammar) (run : List Event) (e : Event) (kept : List Kept) → AreMarked g run kept → AreExpansions kept → (names : List (List ℕ)) → names_of (made_by g g.start e) ≡ names → AreMarked g (run ++ e ∷ []) (all_marked names kept)
marks_with g run e kept marks expansions names same j l h =
    let at = at_all_marked names kept j in
    let y = kept_at kept j in
    let was : y.held ≡ true = sym (held_each names y) ∙ (ap (λ (z : Kept). z.held) (sym at) ∙ h) in
    let within = held_within kept j was in
    let full : y ≡ holding y.report.line y.report.event y.ready = λ t. record { report = y.report; held = was t; ready = y.ready } in
    let one = marks_of_one g run e names same y.report.line y.report.event y.ready (marks j within was) (λ q. absurd (expansions j within q)) in
    ap (λ (z : Kept). z.ready) (at ∙ ap (each_marked names) full) ∙ (one ∙ ap (ready_in g (run ++ e ∷ [])) (sym (ap (λ (z : Kept). z.report) at ∙ report_each names y)))

module _ (g : Grammar) (run : List Event) (kept : List Kept) (marks : AreMarked g run kept) (differ : AllDiffer (subjects_of kept)) (k : ℕ) (first : IsFirstReady kept k) where
  abbrev applied : Event
  applied = (kept_at kept k).report.event

  abbrev left : List Kept
  left = slice_set kept k (let_go (kept_at kept k))

  -- no other report of a start event is held before the first event
  begun : (run : List Event) → AreMarked g run kept → (j : ℕ) → (kept_at kept j).held ≡ true → (j ≡ k → ⊥) → subject_of (kept_at kept j).report.event ≡ None → is_nil run ≡ false
  begun (x ∷ run) marks j h n e = refl
  begun [] marks j h n e =
      let s = start_first g applied (sym (marks k first.within first.held) ∙ first.ready) in
      absurd (n (one_place kept differ j k (held_within kept j h) first.within (e ∙ sym s)))

  -- where the first that is ready is let go and its event applied, the marks are right again
  pub marks_after : (names : List (List ℕ)) → names_of (made_by g g.start applied) ≡ names → AreMarked g (run ++ applied ∷ []) (all_marked names left)
  marks_after names same j l h =
      let at = at_all_marked names left j in
      let held = sym (held_each names (kept_at left j)) ∙ (ap (λ (z : Kept). z.held) (sym at) ∙ h) in
      let other = held_other kept k j (let_go (kept_at kept k)) refl held in
      let is = at ∙ ap (each_marked names) other.0 in
      let was : (kept_at kept j).held ≡ true = ap (λ (z : Kept). z.held) (sym other.0) ∙ held in
      let y = kept_at kept j in
      let full : y ≡ holding y.report.line y.report.event y.ready = λ t. record { report = y.report; held = was t; ready = y.ready } in
      let one = marks_of_one g run applied names same y.report.line y.report.event y.ready (marks j (held_within kept j was) was) (begun run marks j was other.1) in
      ap (λ (z : Kept). z.ready) (is ∙ ap (each_marked names) full) ∙ (one ∙ ap (ready_in g (run ++ applied ∷ [])) (sym (ap (λ (z : Kept). z.report) is ∙ report_each names y)))
