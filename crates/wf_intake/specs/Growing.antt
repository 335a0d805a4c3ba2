-- What contracts say of a run that grows. It is told by what it is seen as: its grammar, the limit on its instances, the events of which it is the run, and its text.
use Rattle.std.specs.Prelude.{◌≡◌, ◌⊎◌, ℕ, Bool, List, [], ◌∷◌, ◌++◌, Option, None, Some, bytes_eq}
use Rattle.std.specs.Cmp.Lexicographic.{pointwise}
use Rattle.wf_model.specs.declared.event.Event.{Event}
use Rattle.wf_model.specs.declared.event.Event.TheVariants.{Start}
use Rattle.wf_model.specs.declared.event.RunFault.{RunFault}
use Rattle.wf_model.specs.declared.event.RunFault.TheVariants.{NoMemory as WantsMemory}
use Rattle.wf_model.specs.Grammar.{Grammar}
use Rattle.wf_model.specs.Run.{Expanded, expanded_by}
use Rattle.wf_model.specs.Faults.{fault_of}
use Rattle.report_model.specs.Intake.{Intake, ReportFault, take_report}
use Rattle.wf_inbox.specs.Inboxes.{InboxSeen}
use Rattle.wf_intake.specs.declared.fault.IntakeFault.{IntakeFault}
use Rattle.wf_intake.specs.declared.standing.Standing.{Standing}
use Rattle.wf_intake.specs.declared.standing.Standing.TheVariants.{Same, Other, Ready, Early}
use Rattle.wf_intake.specs.Reported.{ReportedSeen}
use Rattle.wf_intake.specs.Applied.{number_in, number_of, FitsRun, IsStanding}
use Rattle.wf_intake.specs.Intakes.{IsIntakeOf, IsWrittenOn, fault_told}
use Rattle.wf_intake.specs.Rounds.{IsApplied, IsNotApplied, IsReportBegun, StopsWith, IsForgotten, Round, Stop}

module _ {Run : Type 0} (is_run : Run → List Event → Type 0) where
  -- a run of some events becomes that of one event more
  abbrev pub GrowsBy : Run → Run → Event → Type 0
  GrowsBy old new e = (events : List Event) → is_run old events → is_run new (events ++ e ∷ [])

  -- it stays that of the same events
  abbrev pub StaysRun : Run → Run → Type 0
  StaysRun old new = (events : List Event) → is_run old events → is_run new events

  -- an answer says whether a run was started with this name
  abbrev pub IsRootTest : Run → List ℕ → Bool → Type 0
  IsRootTest run name answer = (root : List ℕ) (later : List Event) → is_run run (Start root ∷ later) → answer ≡ bytes_eq root name

-- an answer says whether the instance of a number was expanded into instances of these names
abbrev pub IsChildrenTest : Grammar → List Event → ℕ → List (List ℕ) → Bool → Type 0
IsChildrenTest g events number names answer = (instance : List ℕ) (x : Expanded) → number_in g events instance ≡ Some number → expanded_by events instance ≡ Some x → answer ≡ pointwise bytes_eq x.names names

module _ {Run : Type 0} (grammar : Run → Grammar) (is_run : Run → List Event → Type 0) where
  -- this number of an instance is that which an event expands, whatever the events of the run were
  abbrev pub IsNumberFor : Run → Event → Option ℕ → Type 0
  IsNumberFor run e number = (events : List Event) → is_run run events → number ≡ number_of (grammar run) events e

  -- where an event is ready, the number is that of the instance that it expands
  abbrev pub HasNumber : Run → Event → Standing → Type 0
  HasNumber run e Same = Unit {0}
  HasNumber run e (Other earlier) = Unit {0}
  HasNumber run e (Ready number) = IsNumberFor run e number
  HasNumber run e Early = Unit {0}

  -- an event stands so to a run, where the lines fit it
  abbrev pub StandsAs : Run → ReportedSeen → Event → Standing → Type 0
  StandsAs run seen e standing = (events : List Event) → is_run run events → FitsRun (grammar run) events seen → IsStanding (grammar run) events seen e standing

  -- the report that is refused, if a fault is a refusal, was the first that was ready, and the parts go on without it
  abbrev pub ForgetsRefused : InboxSeen → ReportedSeen → Run → InboxSeen → ReportedSeen → Run → IntakeFault → Type 0
  ForgetsRefused was told old inbox seen new f = (r : ReportFault) → fault_told f ≡ Some r → IsForgotten (grammar old) was.kept told (is_run old) inbox.kept seen (is_run new) r

module _ {Run : Type 0} (grammar : Run → Grammar) (most : Run → ℕ) (is_run : Run → List Event → Type 0) where
  -- an event has no fault after a run
  abbrev pub HasNoFault : Run → Event → Type 0
  HasNoFault run e = (events : List Event) → is_run run events → fault_of (grammar run) (most run) events e ≡ None

  -- a fault is the first of an event after a run, or want of memory
  abbrev pub IsFaultOrWant : Run → Event → RunFault → Type 0
  IsFaultOrWant run e f = (f ≡ WantsMemory) ⊎ ((events : List Event) → is_run run events → fault_of (grammar run) (most run) events e ≡ Some f)

module _ {Run : Type 0} (grammar : Run → Grammar) (is_run : Run → List Event → Type 0) (written : Grammar → List Event → List ℕ) (text : Run → List ℕ) where
  -- behind the text so far stands that of one event more
  abbrev pub WritesEvent : Run → Run → Event → Type 0
  WritesEvent old new e = (events : List Event) → is_run old events → IsWrittenOn (written (grammar old)) events (events ++ e ∷ []) (text old) (text new)

module _ {Run : Type 0} (grammar : Run → Grammar) (most : Run → ℕ) (is_run : Run → List Event → Type 0) (written : Grammar → List Event → List ℕ) (text : Run → List ℕ) where
  -- an event is applied
  abbrev pub AppliesEvent : Run → Run → Event → Type 0
  AppliesEvent old new e = (events : List Event) → is_run old events → IsApplied (grammar old) (most old) (written (grammar old)) events e (is_run new) (text old) (text new)

  -- the event of this line is refused, if a fault is a refusal
  abbrev pub RefusesEvent : Run → Run → ℕ → Event → IntakeFault → Type 0
  RefusesEvent old new line e f = (r : ReportFault) → fault_told f ≡ Some r → (events : List Event) → is_run old events → IsNotApplied (grammar old) (most old) events e line r (is_run new) (text old) (text new)

  -- rounds are done, from a state of these reports, lines and run to one of those
  abbrev pub DoesRounds : InboxSeen → ReportedSeen → Run → InboxSeen → ReportedSeen → Run → Type 0
  DoesRounds was told old inbox seen new = Round (grammar old) (most old) written was.kept told (is_run old) (text old) inbox.kept seen (is_run new) (text new)

  -- a round ends in a refusal, if a fault is one
  abbrev pub StopsRounds : InboxSeen → ReportedSeen → Run → Run → IntakeFault → Type 0
  StopsRounds was told old new = Stop (grammar old) (most old) written was.kept told (is_run old) (text old) (is_run new) (text new)

  -- a report is begun
  abbrev pub BeginsReport : InboxSeen → ReportedSeen → Run → InboxSeen → ReportedSeen → Run → ℕ → Event → Type 0
  BeginsReport was told old inbox seen new line e =
      (s : Intake) → IsIntakeOf (grammar old) was.kept told (is_run old) s →
      IsReportBegun (grammar old) (most old) (written (grammar old)) inbox.kept seen (is_run new) (text old) (text new) s (record { line = line; event = e })

  -- this report is refused, if a fault is a refusal
  abbrev pub StopsAtOne : InboxSeen → ReportedSeen → Run → Run → ℕ → Event → IntakeFault → Type 0
  StopsAtOne was told old new line e f =
      (r : ReportFault) → fault_told f ≡ Some r → (s : Intake) → IsIntakeOf (grammar old) was.kept told (is_run old) s →
      StopsWith (written (grammar old)) (is_run new) (text old) (text new) s (take_report (grammar old) (most old) s (record { line = line; event = e })) r
