-- The rounds in which the events of held reports are applied.
use Rattle.std.specs.Prelude.{◌≡◌, ℕ, List, [], ◌∷◌, ◌++◌, map, filter, length, Some, None}
use Rattle.wf_model.specs.declared.event.Event.{Event}
use Rattle.wf_model.specs.declared.event.Event.TheVariants.{Start, Expand}
use Rattle.wf_model.specs.declared.event.RunFault.{RunFault}
use Rattle.wf_model.specs.Grammar.{Grammar}
use Rattle.wf_model.specs.Faults.{fault_of}
use Rattle.report_model.specs.Reports.{Report}
use Rattle.report_model.specs.Intake.{Intake, ReportFault, Refused, Taking, GoesOn, Stops, hold, apply_ready, apply_all}
use Rattle.report_model.specs.Kept.{Kept, is_held}
use Rattle.wf_inbox.specs.Inboxes.{marked, IsNext}
use Rattle.wf_intake.specs.declared.fault.IntakeFault.{IntakeFault}
use Rattle.wf_intake.specs.Reported.{ReportedSeen}
use Rattle.wf_intake.specs.Intakes.{IsKeptAs, IsWrittenOn, forgetting, fault_told}

-- the names that an event gives to instances
abbrev pub names_given : Event → List (List ℕ)
names_given (Start r) = r ∷ []
names_given (Expand i p names) = names

-- held reports about the instances of these names are marked as ready
abbrev pub all_marked : List (List ℕ) → List Kept → List Kept
all_marked [] kept = kept
all_marked (n ∷ names) kept = all_marked names (map (marked n) kept)

-- how many reports are held
abbrev pub held_count : List Kept → ℕ
held_count kept = length (filter is_held kept)

-- an event is applied to the run of these events, and its text is made
pub record IsApplied (g : Grammar) (most : ℕ) (written : List Event → List ℕ) (events : List Event) (e : Event) (IsRun : List Event → Type 0) (old new : List ℕ) : Type 0 where
  pub run : IsRun (events ++ e ∷ [])
  pub extends : fault_of g most events e ≡ None
  pub text : IsWrittenOn written events (events ++ e ∷ []) old new

-- the run is that of the same events as before, and the text is the same
pub record IsUntouched (events : List Event) (IsRun : List Event → Type 0) (old new : List ℕ) : Type 0 where
  pub run : IsRun events
  pub text : new ≡ old

-- the run of these events refuses the event of this line, and so its report is refused; the run and the text are as before
pub record IsNotApplied (g : Grammar) (most : ℕ) (events : List Event) (e : Event) (line : ℕ) (r : ReportFault) (IsRun : List Event → Type 0) (old new : List ℕ) : Type 0 where
  pub fault : RunFault
  pub of_run : fault_of g most events e ≡ Some fault
  pub told : r ≡ Refused line fault
  pub untouched : IsUntouched events IsRun old new

-- A state comes to a later one: so many times the first held report that is ready is taken out and its event applied, and none is refused
pub record IsOnTheWay (g : Grammar) (most : ℕ) (first reached : Intake) : Type 0 where
  pub rounds : ℕ
  pub go_on : apply_ready g most rounds first ≡ GoesOn reached

-- a state comes to the same as this later one, which is that of the reports that are kept, the lines and the run; the text is that of the events between them
pub record ComesTo (g : Grammar) (most : ℕ) (written : List Event → List ℕ) (kept : List Kept) (seen : ReportedSeen) (IsRun : List Event → Type 0) (old new : List ℕ) (s : Intake) : Type 0 where
  pub later : Intake
  pub same : apply_all g most s ≡ apply_all g most later
  pub on_the_way : IsOnTheWay g most s later
  pub here : IsKeptAs g kept seen IsRun later
  pub text : IsWrittenOn written s.run later.run old new

-- A report is begun: it is held beside the others, or ignored, and what this leaves comes to a later state. There is one round at most between them, in which the event of the report itself is applied
pub record IsReportBegun (g : Grammar) (most : ℕ) (written : List Event → List ℕ) (kept : List Kept) (seen : ReportedSeen) (IsRun : List Event → Type 0) (old new : List ℕ) (s : Intake) (r : Report) : Type 0 where
  pub first : Intake
  pub held : hold s r ≡ GoesOn first
  pub comes : ComesTo g most written kept seen IsRun old new first

-- the taking comes from a state to a refusal; the run is that of the state that is left then, and the text is that of the events up to it
pub record StopsWith (written : List Event → List ℕ) (IsRun : List Event → Type 0) (old new : List ℕ) (s : Intake) (taking : Taking) (r : ReportFault) : Type 0 where
  pub left : Intake
  pub stops : taking ≡ Stops left r
  pub run : IsRun left.run
  pub text : IsWrittenOn written s.run left.run old new

-- The report that is refused, by its line, was the first that was ready. It is let go, and the lines are as they were; and from each state that the reports kept before and the lines are of, those are left of the state without it, so that others can be taken
pub record IsForgotten (g : Grammar) (was : List Kept) (told : ReportedSeen) (WasRun : List Event → Type 0) (left : List Kept) (seen : ReportedSeen) (IsRun : List Event → Type 0) (r : ReportFault) : Type 0 where
  pub next : Report
  pub fault : RunFault
  pub is : r ≡ Refused next.line fault
  pub let_go : IsNext was left next
  pub lines : seen ≡ told
  pub parts : (s : Intake) → IsKeptAs g was told WasRun s → IsKeptAs g left seen IsRun (forgetting g s next.event)

-- each state that the reports kept before, the lines and the run before are of comes to one that those of now are of
abbrev pub Round : (g : Grammar) (most : ℕ) (written : Grammar → List Event → List ℕ) (was : List Kept) (told : ReportedSeen) (WasRun : List Event → Type 0) (before : List ℕ)
    (kept : List Kept) (seen : ReportedSeen) (IsRun : List Event → Type 0) (now : List ℕ) → Type 0
Round g most written was told WasRun before kept seen IsRun now = (s : Intake) → IsKeptAs g was told WasRun s → ComesTo g most (written g) kept seen IsRun before now s

-- each such state comes to the refusal that a fault reports
abbrev pub Stop : (g : Grammar) (most : ℕ) (written : Grammar → List Event → List ℕ) (was : List Kept) (told : ReportedSeen) (WasRun : List Event → Type 0) (before : List ℕ) (IsRun : List Event → Type 0) (now : List ℕ) → IntakeFault → Type 0
Stop g most written was told WasRun before IsRun now f = (r : ReportFault) → fault_told f ≡ Some r → (s : Intake) → IsKeptAs g was told WasRun s → StopsWith (written g) IsRun before now s (apply_all g most s) r
