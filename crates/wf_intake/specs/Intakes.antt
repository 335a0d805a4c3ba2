-- The intake of reports as code keeps it: an inbox of the reports that were not ready when they came, the lines that reported the events that were applied, and a run that grows.
use Rattle.std.specs.Prelude.{◌≡◌, ℕ, ◌<◌, true, false, not, List, ◌++◌, map, filter, length, Option, Some, None}
use Rattle.std.specs.List.{find}
use Rattle.wf_model.specs.Lists.{AllDiffer}
use Rattle.wf_model.specs.declared.event.Event.{Event}
use Rattle.wf_model.specs.Grammar.{Grammar}
use Rattle.report_model.specs.Reports.{Report, subject_of, about}
use Rattle.report_model.specs.Intake.{Intake, ReportFault, Conflict, Refused, Orphan, without_first, ready_in}
use Rattle.report_model.specs.Kept.{Kept, report_of, is_held, kept_at, AreMarked}
use Rattle.wf_inbox.specs.Inboxes.{NoneReady}
use Rattle.wf_intake.specs.declared.fault.IntakeFault.{IntakeFault}
use Rattle.wf_intake.specs.declared.fault.IntakeFault.TheVariants.{Conflict as HasConflict, Refused as HasRefused, Orphan as HasOrphan, NoMemory}
use Rattle.wf_intake.specs.Reported.{ReportedSeen}
use Rattle.wf_intake.specs.Applied.{applied_on, known_by, FitsRun}

-- the subjects of the reports that are kept
abbrev pub subjects_of : List Kept → List (Option (List ℕ))
subjects_of kept = map (λ (k : Kept). subject_of k.report.event) kept

-- the reports that are kept are of expand events
abbrev pub AreExpansions : List Kept → Type 0
AreExpansions kept = (k : ℕ) → k < length kept → subject_of (kept_at kept k).report.event ≡ None → ⊥

-- no event was applied on the subject of a report that is held
abbrev pub AreNotApplied : Grammar → List Event → ReportedSeen → List Kept → Type 0
AreNotApplied g run seen kept = (k : ℕ) → k < length kept → (kept_at kept k).held ≡ true → applied_on g run seen (kept_at kept k).report.event ≡ None

-- a report that is held no longer was ready, and would be so still: it was applied or refused
abbrev pub WereReady : Grammar → List Event → List Kept → Type 0
WereReady g run kept = (k : ℕ) → k < length kept → (kept_at kept k).held ≡ false → ready_in g run (kept_at kept k).report ≡ true

-- The reports that are kept, the lines and the run are those of a state of the intake: the reports that are held, and what is known on each subject. A report that was refused is not known. The marks of ready reports are right, and no two of the reports that are kept are about the same
pub record IsKeptAs (g : Grammar) (kept : List Kept) (seen : ReportedSeen) (IsRun : List Event → Type 0) (s : Intake) : Type 0 where
  pub run : IsRun s.run
  pub held : s.held ≡ map report_of (filter is_held kept)
  pub known : (x : Event) → find (about x) s.known ≡ known_by g s.run seen s.held x
  pub marks : AreMarked g s.run kept
  pub subjects : AllDiffer (subjects_of kept)
  pub expansions : AreExpansions kept
  pub waiting : AreNotApplied g s.run seen kept
  pub gone : WereReady g s.run kept
  pub fits : FitsRun g s.run seen

-- they are those of a state between two reports: none that is held is ready
pub record IsIntakeOf (g : Grammar) (kept : List Kept) (seen : ReportedSeen) (IsRun : List Event → Type 0) (s : Intake) : Type 0 where
  pub parts : IsKeptAs g kept seen IsRun s
  pub none_ready : NoneReady kept

-- the state without the report that is refused: it is neither held any more nor known, and what was applied and what else is held stays
abbrev pub forgetting : Grammar → Intake → Event → Intake
forgetting g s e = record { run = s.run; held = without_first (ready_in g s.run) s.held; known = filter (λ (r : Report). not (about e r)) s.known }

-- the text that was made behind an older one is that which is written of the events of the later run, behind those of the earlier run
abbrev pub IsWrittenOn : (List Event → List ℕ) → List Event → List Event → List ℕ → List ℕ → Type 0
IsWrittenOn written earlier later old new = (piece : List ℕ) × (new ≡ old ++ piece) × (written later ≡ written earlier ++ piece)

-- why a report is refused, where it is; want of memory is no refusal
abbrev pub fault_told : IntakeFault → Option ReportFault
fault_told (HasConflict line earlier) = Some (Conflict line earlier)
fault_told (HasRefused line fault) = Some (Refused line fault)
fault_told (HasOrphan line) = Some (Orphan line)
fault_told NoMemory = None
