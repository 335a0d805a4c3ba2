-- Lines of events are taken in one way: all of them to one state, or up to one place with one ending.
use Rattle.std.proofs.Common.{◌≡◌, ◌⊎◌, ℕ, List, [], ◌∷◌, ◌++◌, Some, refl, sym, ap, ◌∙◌, subst, inl, inr, true≢false, append-nil}
use Rattle.std.specs.Prelude.{codes}
use Rattle.wf_model.specs.declared.event.Event.{Event}
use Rattle.wf_model.specs.Grammar.{Grammar}
use Rattle.report_model.specs.Reports.{Report}
use Rattle.report_model.specs.Intake.{Intake, nothing_taken, ReportFault, Taking, GoesOn, Stops, and_then, take_report, take_reports}
use Rattle.wf_io.specs.Lines.{Line, text_of}
use Rattle.wf_message.specs.Endings.{End, Refused}
use Rattle.wf_inputs.specs.RunTold.{IsEventLine, report_on, AreReports, AreTakenTo, RefusesLine, report_end, IsRefusedAt, IsStoppedAt}
use Rattle.wf_inputs.proofs.OneValue.{one_event}
use Rattle.wf_inputs.proofs.OneForm.{no_event, one_form_fault}

-- a line that reports an event is not refused
pub no_line : (l : Line) (x : List ℕ) (e : Event) → RefusesLine l x → IsEventLine l e → ⊥
no_line l x e (inl p) is = true≢false (sym p.0 ∙ is.0)
no_line l x e (inr p) is = no_event (text_of l.raw) x e p.1 is.1

-- a line has one refusal
pub one_line_fault : (l : Line) (x y : List ℕ) → RefusesLine l x → RefusesLine l y → x ≡ y
one_line_fault l x y (inl p) (inl q) = p.1 ∙ sym q.1
one_line_fault l x y (inl p) (inr q) = absurd (true≢false (sym p.0 ∙ q.0))
one_line_fault l x y (inr p) (inl q) = absurd (true≢false (sym q.0 ∙ p.0))
one_line_fault l x y (inr p) (inr q) = one_form_fault (text_of l.raw) x y p.1 q.1

-- what lines come to: they are taken, and leave a state; or they end the program, and leave one
pub data Reached : Type 0 where
  On : (state : Intake) → Reached
  Ended : (state : Intake) (ending : End) → Reached

module _ (g : Grammar) (limit : ℕ) where
  -- a line is refused, and the state stays
  abbrev pub RefusesHere : Intake → Line → Intake → End → Type 0
  RefusesHere s l t d = (fault : List ℕ) × RefusesLine l fault × (d ≡ Refused (codes "events") (Some l.number) fault) × (t ≡ s)

  -- its report is taken, and a report is refused
  abbrev pub StopsHere : Intake → Line → Intake → End → Type 0
  StopsHere s l t d = (e : Event) × IsEventLine l e × ((f : ReportFault) × (take_report g limit s (report_on l.number e) ≡ Stops t f) × (d ≡ report_end f))

  -- its report is taken, and leaves a state
  abbrev pub GoesHere : Intake → Line → Intake → Type 0
  GoesHere s l t = (e : Event) × IsEventLine l e × (take_report g limit s (report_on l.number e) ≡ GoesOn t)

  -- what a line comes to from a state
  abbrev pub ReachesBy : Intake → Line → Reached → Type 0
  ReachesBy s l (On t) = GoesHere s l t
  ReachesBy s l (Ended t d) = RefusesHere s l t d ⊎ StopsHere s l t d

  -- what lines come to from a state
  abbrev pub Reaches : Intake → List Line → Reached → Type 0
  Reaches s [] a = a ≡ On s
  Reaches s (l ∷ ls) a = ((t : Intake) × (d : End) × ReachesBy s l (Ended t d) × (a ≡ Ended t d)) ⊎ ((t : Intake) × GoesHere s l t × Reaches t ls a)

  -- two readings of a line are of one report
  one_taking : (s : Intake) (l : Line) (e f : Event) → IsEventLine l e → IsEventLine l f → take_report g limit s (report_on l.number e) ≡ take_report g limit s (report_on l.number f)
  one_taking s l e f p q = ap (λ x. take_report g limit s (report_on l.number x)) (one_event (text_of l.raw) e f p.1 q.1)

  -- a line comes to one thing
  pub one_step : (s : Intake) (l : Line) (a b : Reached) → ReachesBy s l a → ReachesBy s l b → a ≡ b
  one_step s l (On t) (On u) p q = let r : GoesOn t ≡ GoesOn u = sym p.2 ∙ (one_taking s l p.0 q.0 p.1 q.1 ∙ q.2) in (cc)
  one_step s l (On t) (Ended u e) p (inl q) = absurd (no_line l q.0 p.0 q.1 p.1)
  one_step s l (On t) (Ended u e) p (inr q) = let r : GoesOn t ≡ Stops u q.2.0 = sym p.2 ∙ (one_taking s l p.0 q.0 p.1 q.1 ∙ q.2.1) in absurd (cc)
  one_step s l (Ended t d) (On u) (inl p) q = absurd (no_line l p.0 q.0 p.1 q.1)
  one_step s l (Ended t d) (On u) (inr p) q = let r : Stops t p.2.0 ≡ GoesOn u = sym p.2.1 ∙ (one_taking s l p.0 q.0 p.1 q.1 ∙ q.2) in absurd (cc)
  one_step s l (Ended t d) (Ended u e) (inl p) (inl q) =
      ap (λ x. Ended x d) (p.3 ∙ sym q.3) ∙ ap (Ended u) (p.2 ∙ (ap (Refused (codes "events") (Some l.number)) (one_line_fault l p.0 q.0 p.1 q.1) ∙ sym q.2))
  one_step s l (Ended t d) (Ended u e) (inl p) (inr q) = absurd (no_line l p.0 q.0 p.1 q.1)
  one_step s l (Ended t d) (Ended u e) (inr p) (inl q) = absurd (no_line l q.0 p.0 q.1 p.1)
  one_step s l (Ended t d) (Ended u e) (inr p) (inr q) =
      let r : Stops t p.2.0 ≡ Stops u q.2.0 = sym p.2.1 ∙ (one_taking s l p.0 q.0 p.1 q.1 ∙ q.2.1) in
      let state : t ≡ u = cc in
      let fault : p.2.0 ≡ q.2.0 = cc in
      ap (λ x. Ended x d) state ∙ ap (Ended u) (p.2.2 ∙ (ap report_end fault ∙ sym q.2.2))

  -- so do lines
  pub one_place : (ls : List Line) (s : Intake) (a b : Reached) → Reaches s ls a → Reaches s ls b → a ≡ b
  one_place [] s a b p q = p ∙ sym q
  one_place (l ∷ ls) s a b (inl p) (inl q) = p.3 ∙ (one_step s l (Ended p.0 p.1) (Ended q.0 q.1) p.2 q.2 ∙ sym q.3)
  one_place (l ∷ ls) s a b (inl p) (inr q) = let r = one_step s l (Ended p.0 p.1) (On q.0) p.2 q.1 in absurd (cc)
  one_place (l ∷ ls) s a b (inr p) (inl q) = let r = one_step s l (On p.0) (Ended q.0 q.1) p.1 q.2 in absurd (cc)
  one_place (l ∷ ls) s a b (inr p) (inr q) =
      let r = one_step s l (On p.0) (On q.0) p.1 q.1 in
      let same : q.0 ≡ p.0 = cc in
      one_place ls p.0 a b p.2 (subst (λ t. Reaches t ls b) same q.2)

  -- lines whose reports are taken come to what the lines behind them come to
  reaches_behind : (ls later : List Line) (rs : List Report) (s t : Intake) (a : Reached) → AreReports ls rs → take_reports g limit s rs ≡ GoesOn t → Reaches t later a → Reaches s (ls ++ later) a
  reaches_behind [] later [] s t a read taken rest = let same : t ≡ s = cc in subst (λ z. Reaches z later a) same rest
  reaches_behind [] later (r ∷ rs) s t a read taken rest = absurd read
  reaches_behind (l ∷ ls) later [] s t a read taken rest = absurd read
  reaches_behind (l ∷ ls) later (r ∷ rs) s t a read taken rest = go (λ q more. reaches_behind ls later rs q t a read.2 more rest) (take_report g limit s r) refl taken
    where
      go : ((q : Intake) → take_reports g limit q rs ≡ GoesOn t → Reaches q (ls ++ later) a) → (u : Taking) → take_report g limit s r ≡ u → and_then u (λ q. take_reports g limit q rs) ≡ GoesOn t → Reaches s (l ∷ (ls ++ later)) a
      go behind (GoesOn q) is more = inr (q, (r.event, read.1, ap (λ n. take_report g limit s (report_on n r.event)) (sym read.0) ∙ is), behind q more)
      go behind (Stops q f) is more = absurd (cc)

  -- so do lines with nothing behind them
  pub taken_reaches : (ls : List Line) (t : Intake) → AreTakenTo g limit ls t → Reaches nothing_taken ls (On t)
  taken_reaches ls t told = subst (λ z. Reaches nothing_taken z (On t)) (append-nil ls) (reaches_behind ls [] told.reports nothing_taken t (On t) told.read told.taken refl)

  -- a line that is refused ends them
  pub refused_reaches : (ls : List Line) (t : Intake) (d : End) → IsRefusedAt g limit ls t d → Reaches nothing_taken ls (Ended t d)
  refused_reaches ls t d at =
      subst (λ z. Reaches nothing_taken z (Ended t d)) (sym at.split)
      (reaches_behind at.taken (at.first ∷ at.later) at.told.reports nothing_taken t (Ended t d) at.told.read at.told.taken (inl (t, d, inl (at.fault, at.refused, at.ending_is, refl), refl)))

  -- so does one whose report is taken, where a report is refused
  pub stopped_reaches : (ls : List Line) (t : Intake) (d : End) → IsStoppedAt g limit ls t d → Reaches nothing_taken ls (Ended t d)
  stopped_reaches ls t d at =
      subst (λ z. Reaches nothing_taken z (Ended t d)) (sym at.split)
      (reaches_behind at.taken (at.first ∷ at.later) at.told.reports nothing_taken at.before (Ended t d) at.told.read at.told.taken (inl (t, d, inr (at.event, at.read, (at.fault, at.stops, at.ending_is)), refl)))
