-- How an event stands to a run.
use Rattle.std.proofs.Common.{◌≡◌, ℕ, Bool, true, false, ◌&&◌, List, [], ◌∷◌, Option, None, Some, option_map, refl, sym, ap, ◌∙◌, ⊎_elim, true≢false, bytes_eq}
use Rattle.std.specs.Prelude.{◌==◌, ◌⊎◌, not, is_some, get_or}
use Rattle.std.specs.Cmp.Lexicographic.{pointwise}
use Rattle.std.proofs.Math.Bool.{and-false}
use Rattle.wf_model.specs.Grammar.{Grammar}
use Rattle.wf_model.specs.declared.event.Event.{Event}
use Rattle.wf_model.specs.declared.event.Event.TheVariants.{Start, Expand}
use Rattle.wf_model.specs.Run.{Expanded, made, names_of, expanded_by}
use Rattle.wf_model.specs.Faults.{is_nil}
use Rattle.wf_model.proofs.Lists.{bytes_same}
use Rattle.report_model.specs.Reports.{Report, same_event}
use Rattle.report_model.proofs.Events.{number_same}
use Rattle.wf_inbox.proofs.Times.{other_number}
use Rattle.wf_intake.specs.declared.reported.ReportedBy.{ReportedBy}
use Rattle.wf_intake.specs.declared.standing.Standing.TheVariants.{Same, Other, Ready, Early}
use Rattle.wf_intake.specs.Reported.{ReportedSeen, expansion_at}
use Rattle.wf_intake.specs.Applied.{number_in, expansion_of, started_by, expansion_by, applied_on, BeginsWell, FitsRun, IsStanding}
use Rattle.wf_intake.proofs.Numbers.{has_number}

pub not_nil : (run : List Event) (b : Bool) → b ≡ not (is_nil run) → b ≡ true → is_nil run ≡ false
not_nil [] b e t = absurd (true≢false (sym t ∙ e))
not_nil (x ∷ run) b e t = refl

-- the report of the start event, beside another
start_told : (start : ℕ) (IsRun : List Event → Type 0) (name : List ℕ) (b : Bool) → ((root : List ℕ) (later : List Event) → IsRun (Start root ∷ later) → b ≡ bytes_eq root name) →
    (run : List Event) → IsRun run → BeginsWell run → is_nil run ≡ false → (k : Report) × (started_by start run ≡ Some k) × (same_event k.event (Start name) ≡ b) × (k.line ≡ start)
start_told start IsRun name b tells [] r w n = absurd (true≢false n)
start_told start IsRun name b tells (Start root ∷ later) r w n = (record { line = start; event = Start root }, refl, sym (tells root later r), refl)
start_told start IsRun name b tells (Expand i p names ∷ later) r w n = absurd w

module _ (g : Grammar) (seen : ReportedSeen) (IsRun : List Event → Type 0) (name : List ℕ) (b : Bool) (tells : (root : List ℕ) (later : List Event) → IsRun (Start root ∷ later) → b ≡ bytes_eq root name) (run : List Event) (is : IsRun run) (fits : FitsRun g run seen) (started : is_nil run ≡ false) where
  pub start_same : b ≡ true → IsStanding g run seen (Start name) Same
  start_same e = let t = start_told seen.start IsRun name b tells run is fits.begins started in (t.0, t.1, t.2 ∙ e)

  pub start_other : b ≡ false → (line : ℕ) → line ≡ seen.start → IsStanding g run seen (Start name) (Other line)
  start_other e line l = let t = start_told seen.start IsRun name b tells run is fits.begins started in (t.0, t.1, t.2 ∙ e, t.3 ∙ sym l)

module _ (g : Grammar) (run : List Event) (seen : ReportedSeen) (i : List ℕ) (p : ℕ) (names : List (List ℕ)) where
  no_expansion : (x : Option Expanded) → expansion_by i x None ≡ None
  no_expansion None = refl
  no_expansion (Some x) = refl

  -- the instance does not stand
  pub expand_early : None ≡ number_in g run i → IsStanding g run seen (Expand i p names) Early
  expand_early e = (
    ap (λ n. expansion_by i (expanded_by run i) (expansion_at seen.expansions n)) (sym e) ∙ no_expansion (expanded_by run i),
    sym (has_number (bytes_eq i) (names_of (made g g.start run))) ∙ ap is_some (sym e),
    λ q. absurd (cc),
  )

  module _ (k : ℕ) (number : Some k ≡ number_in g run i) where
    -- it is not expanded
    pub expand_ready : get_or seen.expansions k None ≡ None → IsStanding g run seen (Expand i p names) (Ready (Some k))
    expand_ready e = (
      ap (λ n. expansion_by i (expanded_by run i) (expansion_at seen.expansions n)) (sym number) ∙ (ap (expansion_by i (expanded_by run i)) e ∙ no_expansion (expanded_by run i)),
      sym (has_number (bytes_eq i) (names_of (made g g.start run))) ∙ ap is_some (sym number),
      number,
    )

    -- it is expanded, so by the production that is kept for it
    expanded : (by : ReportedBy) → get_or seen.expansions k None ≡ Some by → FitsRun g run seen → (x : Expanded) × (expanded_by run i ≡ Some x) × (by.production ≡ x.production) × (applied_on g run seen (Expand i p names) ≡ Some (record { line = by.line; event = Expand i x.production x.names }))
    expanded by e fits = go (expanded_by run i) refl (ap (option_map (λ (z : ReportedBy). z.production)) (sym there) ∙ fits.productions i)
      where
        there : expansion_of g run seen i ≡ Some by
        there = ap (expansion_at seen.expansions) (sym number) ∙ e

        go : (o : Option Expanded) → expanded_by run i ≡ o → option_map (λ (z : ReportedBy). z.production) (Some by) ≡ option_map (λ (z : Expanded). z.production) (expanded_by run i) →
            (x : Expanded) × (expanded_by run i ≡ Some x) × (by.production ≡ x.production) × (applied_on g run seen (Expand i p names) ≡ Some (record { line = by.line; event = Expand i x.production x.names }))
        go None q m = let n : ◌≡◌ {A = Option ℕ} (Some by.production) None = m ∙ ap (option_map (λ (z : Expanded). z.production)) q in absurd (cc)
        go (Some x) q m =
            let n : ◌≡◌ {A = Option ℕ} (Some by.production) (Some x.production) = m ∙ ap (option_map (λ (z : Expanded). z.production)) q in
            let l : by.production ≡ x.production = cc in
            (x, q, l, ap (λ z. expansion_by i z (expansion_of g run seen i)) q ∙ ap (expansion_by i (Some x)) there)

    module _ (by : ReportedBy) (kept : get_or seen.expansions k None ≡ Some by) (fits : FitsRun g run seen) where
      same_as : (x : Expanded) → by.production ≡ x.production → same_event (Expand i x.production x.names) (Expand i p names) ≡ (by.production == p) && pointwise bytes_eq x.names names
      same_as x e = ap (λ b. b && ((x.production == p) && pointwise bytes_eq x.names names)) (bytes_same i i refl) ∙ ap (λ z. (z == p) && pointwise bytes_eq x.names names) (sym e)

      -- by the same event
      pub expand_same : by.production ≡ p → ((x : Expanded) → expanded_by run i ≡ Some x → true ≡ pointwise bytes_eq x.names names) → IsStanding g run seen (Expand i p names) Same
      expand_same e tells =
          let x = expanded by kept fits in
          (record { line = by.line; event = Expand i x.0.production x.0.names }, x.3, same_as x.0 x.2 ∙ (ap (λ b. b && pointwise bytes_eq x.0.names names) (ap (λ z. z == p) e ∙ number_same p) ∙ sym (tells x.0 x.1)))

      -- or by another: by another production, or with other names
      pub expand_other : (line : ℕ) → line ≡ by.line → ((by.production ≡ p → ⊥) ⊎ ((x : Expanded) → expanded_by run i ≡ Some x → false ≡ pointwise bytes_eq x.names names)) → IsStanding g run seen (Expand i p names) (Other line)
      expand_other line l differs =
          let x = expanded by kept fits in
          (record { line = by.line; event = Expand i x.0.production x.0.names }, x.3, same_as x.0 x.2 ∙ ⊎_elim (λ n. ap (λ b. b && pointwise bytes_eq x.0.names names) (other_number by.production p n)) (λ t. ap (λ b. (by.production == p) && b) (sym (t x.0 x.1)) ∙ and-false (by.production == p)) differs, sym l)
