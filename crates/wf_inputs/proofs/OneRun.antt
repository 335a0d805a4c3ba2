-- A file of events has one outcome.
use Rattle.std.proofs.Common.{◌≡◌, ◌⊎◌, ℕ, List, [], ◌∷◌, Some, sym, ap, ◌∙◌, subst, inl, inr}
use Rattle.std.specs.Prelude.{codes}
use Rattle.wf_model.specs.declared.event.Event.{Event}
use Rattle.wf_model.specs.Grammar.{Grammar}
use Rattle.wf_model.specs.Run.{IsAccepted}
use Rattle.report_model.specs.Reports.{Report}
use Rattle.report_model.specs.Intake.{Intake, nothing_taken, Orphan, GoesOn, state_after, take_reports}
use Rattle.report_model.proofs.TakenReports.{ends_on, accepted_law}
use Rattle.wf_io.specs.Lines.{FileLines, Tail, AtEnd, Broken, LongFile}
use Rattle.wf_message.specs.Endings.{End, Refused, ReadFault}
use Rattle.wf_inputs.specs.RunTold.{report_end, TellsEvents, StopsIn, refused, stopped, held, long_file, broken, EventsStage, stops, goes_on}
use Rattle.wf_inputs.proofs.OneValue.{one_run}
use Rattle.wf_inputs.proofs.OneRunFault.{Reached, On, Ended, Reaches, one_place, taken_reaches, refused_reaches, stopped_reaches}

-- the run that a file of events tells is accepted
pub events_accepted : (g : Grammar) (limit : ℕ) (file : FileLines) (es : List Event) → TellsEvents g limit file es → IsAccepted g limit es
events_accepted g limit file es told =
    subst (IsAccepted g limit) (ap (λ u. (state_after u).run) told.taken ∙ told.run) (accepted_law g limit told.reports).accepted

-- why the end of a file, behind all lines, ends the program in this state
abbrev StopsAtTail : Tail → Intake → End → Type 0
StopsAtTail AtEnd s d = (r : Report) × (later : List Report) × (s.held ≡ r ∷ later) × (d ≡ report_end (Orphan r.line))
StopsAtTail Broken s d = d ≡ ReadFault (codes "events")
StopsAtTail (LongFile n) s d = d ≡ Refused (codes "events") (Some n) (codes "FileTooLong")

-- it does so in one way
one_tail : (k : Tail) (s t : Intake) (d e : End) → s ≡ t → StopsAtTail k s d → StopsAtTail k t e → d ≡ e
one_tail AtEnd s t d e same p q =
    let first : p.0 ≡ q.0 = let r = sym p.2 ∙ (ap (λ (z : Intake). z.held) same ∙ q.2) in (cc) in
    p.3 ∙ (ap (λ (r : Report). report_end (Orphan r.line)) first ∙ sym q.3)
one_tail Broken s t d e same p q = p ∙ sym q
one_tail (LongFile n) s t d e same p q = p ∙ sym q

module _ (g : Grammar) (limit : ℕ) (file : FileLines) where
  -- a file ends the program within its lines, or behind them
  abbrev StopsWithin : Intake → End → Type 0
  StopsWithin s d = Reaches g limit nothing_taken file.lines (Ended s d)

  abbrev StopsBehind : Intake → End → Type 0
  StopsBehind s d = Reaches g limit nothing_taken file.lines (On s) × StopsAtTail file.tail s d

  within_or_behind : (s : Intake) (d : End) → StopsIn g limit file s d → StopsWithin s d ⊎ StopsBehind s d
  within_or_behind s d (refused at) = inl (refused_reaches g limit file.lines s d at)
  within_or_behind s d (stopped at) = inl (stopped_reaches g limit file.lines s d at)
  within_or_behind s d (held whole at) = inr (taken_reaches g limit file.lines s at.told, subst (λ k. StopsAtTail k s d) (sym whole) (at.first, at.later, at.held, at.ending_is))
  within_or_behind s d (long_file n told long is) = inr (taken_reaches g limit file.lines s told, subst (λ k. StopsAtTail k s d) (sym long) is)
  within_or_behind s d (broken told breaks is) = inr (taken_reaches g limit file.lines s told, subst (λ k. StopsAtTail k s d) (sym breaks) is)

  -- a whole file that tells a run does not end the program
  pub told_not_stopped : (es : List Event) (s : Intake) (d : End) → TellsEvents g limit file es → StopsIn g limit file s d → ⊥
  told_not_stopped es s d told stop = go (within_or_behind s d stop)
    where
      ends : (take_reports g limit nothing_taken told.reports ≡ GoesOn told.state) × (told.state.held ≡ [])
      ends = ends_on (take_reports g limit nothing_taken told.reports) told.state told.taken

      all : Reaches g limit nothing_taken file.lines (On told.state)
      all = taken_reaches g limit file.lines told.state (record { reports = told.reports; read = told.read; taken = ends.0 })

      go : StopsWithin s d ⊎ StopsBehind s d → ⊥
      go (inl p) = let r = one_place g limit file.lines nothing_taken _ _ all p in absurd (cc)
      go (inr p) =
          let r = one_place g limit file.lines nothing_taken _ _ all p.0 in
          let same : told.state ≡ s = cc in
          let at : StopsAtTail AtEnd s d = subst (λ k. StopsAtTail k s d) told.whole p.1 in
          let none = sym at.2 ∙ (ap (λ (z : Intake). z.held) (sym same) ∙ ends.1) in
          absurd (cc)

  -- it goes on with that run
  pub events_goes_on : (written : List Event → List ℕ) (Next : List Event → End → List ℕ → Type 0) (es : List Event) → TellsEvents g limit file es → (d : End) (t : List ℕ) → EventsStage g limit file written Next d t → Next es d t
  events_goes_on written Next es told d t (stops s stop is) = absurd (told_not_stopped es s d told stop)
  events_goes_on written Next es told d t (goes_on fs other next) = subst (λ z. Next z d t) (one_run g limit file es fs told other) next

  -- it ends the program in one way, and leaves one state
  pub one_stop : (s t : Intake) (d e : End) → StopsIn g limit file s d → StopsIn g limit file t e → (s ≡ t) × (d ≡ e)
  one_stop s t d e p q = go (within_or_behind s d p) (within_or_behind t e q)
    where
      one : (a b : Reached) → Reaches g limit nothing_taken file.lines a → Reaches g limit nothing_taken file.lines b → a ≡ b
      one = one_place g limit file.lines nothing_taken

      go : StopsWithin s d ⊎ StopsBehind s d → StopsWithin t e ⊎ StopsBehind t e → (s ≡ t) × (d ≡ e)
      go (inl x) (inl y) = let r = one (Ended s d) (Ended t e) x y in (cc, cc)
      go (inl x) (inr y) = let r = one (Ended s d) (On t) x y.0 in absurd (cc)
      go (inr x) (inl y) = let r = one (On s) (Ended t e) x.0 y in absurd (cc)
      go (inr x) (inr y) =
          let r = one (On s) (On t) x.0 y.0 in
          let same : s ≡ t = cc in
          (same, one_tail file.tail s t d e same x.1 y.1)

  -- it has one outcome where what follows has
  pub one_events : (written : List Event → List ℕ) (Next : List Event → End → List ℕ → Type 0) → ((es : List Event) → TellsEvents g limit file es → (d e : End) (t s : List ℕ) → Next es d t → Next es e s → (d ≡ e) × (t ≡ s)) →
      (d e : End) (t s : List ℕ) → EventsStage g limit file written Next d t → EventsStage g limit file written Next e s → (d ≡ e) × (t ≡ s)
  one_events written Next next d e t s (stops x p is) (stops y q also) = let same = one_stop x y d e p q in (same.1, is ∙ (ap (λ (z : Intake). written z.run) same.0 ∙ sym also))
  one_events written Next next d e t s (stops x p is) (goes_on fs told q) = absurd (told_not_stopped fs x d told p)
  one_events written Next next d e t s (goes_on es told p) (stops y q is) = absurd (told_not_stopped es y e told q)
  one_events written Next next d e t s (goes_on es told p) (goes_on fs other q) = next es told d e t s p (events_goes_on written Next es told e s (goes_on fs other q))
