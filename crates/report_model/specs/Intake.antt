-- The intake of reports, which come in any order and more than once: which events it applies to a run, and which report it refuses.
use Rattle.std.specs.Prelude.{ℕ, zero, suc, Bool, cond, List, [], ◌∷◌, ◌++◌, length, Option, Some, None}
use Rattle.std.specs.List.{find}
use Rattle.wf_model.specs.Grammar.{Grammar}
use Rattle.wf_model.specs.declared.event.Event.{Event}
use Rattle.wf_model.specs.declared.event.Event.TheVariants.{Start, Expand}
use Rattle.wf_model.specs.declared.event.RunFault.{RunFault}
use Rattle.wf_model.specs.Run.{made, names_of}
use Rattle.wf_model.specs.Faults.{is_nil, is_one_of, fault_of}
use Rattle.report_model.specs.Reports.{Report, same_event, about}

-- the state of the intake: the run so far, the reports that are held, and all reports that were ever held; reports stand in the order in which they came
pub record Intake : Type 0 where
  pub run : List Event
  pub held : List Report
  pub known : List Report

-- the state before the first report
abbrev pub nothing_taken : Intake
nothing_taken = record { run = []; held = []; known = [] }

-- Why a report is refused, told by the number of its line. It contradicts the report of an earlier line; or its event came to be ready, and the run refused it with this fault; or its event never came to be ready
pub data ReportFault : Type 0 where
  Conflict : (line earlier : ℕ) → ReportFault
  Refused : (line : ℕ) (fault : RunFault) → ReportFault
  Orphan : (line : ℕ) → ReportFault

-- what the taking of reports comes to: it goes on from a state, or one of them is refused, and this state is left without it
pub data Taking : Type 0 where
  GoesOn : (state : Intake) → Taking
  Stops : (state : Intake) (fault : ReportFault) → Taking

-- the state that is there then, in either case
abbrev pub state_after : Taking → Intake
state_after (GoesOn s) = s
state_after (Stops s f) = s

-- where it goes on, what comes next is done
abbrev pub and_then : Taking → (Intake → Taking) → Taking
and_then (GoesOn s) next = next s
and_then (Stops s f) next = Stops s f

-- the list without the first element that passes the test
abbrev pub without_first : {A : Type 0} → (A → Bool) → List A → List A
without_first test [] = []
without_first test (x ∷ xs) = cond (test x) xs (x ∷ without_first test xs)

-- an event is ready after a run: a start event where the run is empty, and an expand event where its instance stands in the run
abbrev pub is_ready : Grammar → List Event → Event → Bool
is_ready g run (Start r) = is_nil run
is_ready g run (Expand i p names) = is_one_of (names_of (made g g.start run)) i

-- the event of a report is ready
abbrev pub ready_in : Grammar → List Event → Report → Bool
ready_in g run r = is_ready g run r.event

-- a report beside the one on its subject that was held before: it is ignored if it reports the same event, and contradicts it if it reports another. Where there was none it is held, last in the list
abbrev pub hold_beside : Intake → Report → Option Report → Taking
hold_beside s r None = GoesOn (record { run = s.run; held = s.held ++ r ∷ []; known = s.known ++ r ∷ [] })
hold_beside s r (Some k) = cond (same_event k.event r.event) (GoesOn s) (Stops s (Conflict r.line k.line))

-- the first part of taking a report: it is held, ignored or refused. It does not matter whether the earlier report is held still
abbrev pub hold : Intake → Report → Taking
hold s r = hold_beside s r (find (about r.event) s.known)

-- a report that was taken out of those that are held: its event is applied, that is, it goes on the end of the run, if it has no fault; and the report is refused if it has one
abbrev pub apply_unless : (Intake → Taking) → Intake → Report → Option RunFault → Taking
apply_unless next s r None = next (record { run = s.run ++ r.event ∷ []; held = s.held; known = s.known })
apply_unless next s r (Some f) = Stops s (Refused r.line f)

-- the state without the first held report that is ready
abbrev pub without_ready : Grammar → Intake → Intake
without_ready g s = record { run = s.run; held = without_first (ready_in g s.run) s.held; known = s.known }

-- the first held report that is ready, if there is one, is taken out, and applied or refused; then what comes next is done
abbrev pub apply_one : Grammar → ℕ → (Intake → Taking) → Intake → Option Report → Taking
apply_one g most next s None = GoesOn s
apply_one g most next s (Some r) = apply_unless next (without_ready g s) r (fault_of g most s.run r.event)

-- this is done while a held report is ready, at most so many times
abbrev pub apply_ready : Grammar → ℕ → ℕ → Intake → Taking
apply_ready g most zero s = GoesOn s
apply_ready g most (suc n) s = apply_one g most (apply_ready g most n) s (find (ready_in g s.run) s.held)

-- All held reports that come to be ready are applied. As many times as reports are held are enough: then no held report is ready
abbrev pub apply_all : Grammar → ℕ → Intake → Taking
apply_all g most s = apply_ready g most (length s.held) s

-- A report is taken in two parts: it is held; and then, while a held report is ready, the first ready one is taken out and applied
abbrev pub take_report : Grammar → ℕ → Intake → Report → Taking
take_report g most s r = and_then (hold s r) (apply_all g most)

-- reports are taken one after another, up to the first that is refused
abbrev pub take_reports : Grammar → ℕ → Intake → List Report → Taking
take_reports g most s [] = GoesOn s
take_reports g most s (r ∷ reports) = and_then (take_report g most s r) (λ t. take_reports g most t reports)

-- where the reports are at their end, the first that is still held is an orphan
abbrev pub end_with : Intake → List Report → Taking
end_with s [] = GoesOn s
end_with s (r ∷ held) = Stops s (Orphan r.line)

-- the intake of reports of a run of the grammar with a limit on its instances, from the first report to their end
abbrev pub intake : Grammar → ℕ → List Report → Taking
intake g most reports = and_then (take_reports g most nothing_taken reports) (λ s. end_with s s.held)
