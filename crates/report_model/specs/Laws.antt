-- Laws of the intake of reports.
use Rattle.std.specs.Prelude.{◌≡◌, ◌≢◌, ◌↔◌, ℕ, true, false, List, [], ◌∷◌, ◌++◌, length, Some, None}
use Rattle.std.specs.List.{find}
use Rattle.wf_model.specs.Lists.{IsIn, AllDiffer}
use Rattle.wf_model.specs.Grammar.{Grammar}
use Rattle.wf_model.specs.WellFormed.{IsWellFormed}
use Rattle.wf_model.specs.View.{View}
use Rattle.wf_model.specs.declared.event.Event.{Event}
use Rattle.wf_model.specs.declared.event.RunFault.{RunFault}
use Rattle.wf_model.specs.declared.event.RunFault.TheVariants.{NotStarted, StartedTwice, UnknownInstance, AlreadyExpanded}
use Rattle.wf_model.specs.Run.{expanded_by, IsRun, IsAccepted, root_of}
use Rattle.wf_model.specs.Faults.{fault_of}
use Rattle.wf_model.specs.Items.{Item}
use Rattle.wf_model.specs.Reach.{Step}
use Rattle.wf_model.specs.Routes.{IsAddress}
use Rattle.wf_laws.specs.Order.{HaveTheSame}
use Rattle.label_model.specs.Labels.{Label}
use Rattle.label_model.specs.RunLabels.{labelled}
use Rattle.label_model.specs.Files.{Entry, entries_of, label_file}
use Rattle.report_model.specs.Reports.{Report, reported, about}
use Rattle.report_model.specs.Intake.{Intake, nothing_taken, ReportFault, Conflict, Refused, Orphan, GoesOn, Stops, state_after, and_then, is_ready, apply_ready, take_report, take_reports, intake}

-- Two runs with the same events, in whatever order: they have the same root, the same instances, links and items under each view, the same expansions and addresses, and each item has in both the same label
pub record AreReordered (g : Grammar) (e f : List Event) : Type 0 where
  pub events : (x : Event) → IsIn x e ↔ IsIn x f
  pub once : AllDiffer f
  pub root : root_of e ≡ root_of f
  pub under : (u : View) → HaveTheSame g u g.start e f
  pub expansions : (n : List ℕ) → expanded_by e n ≡ expanded_by f n
  pub addresses : (n : List ℕ) (a : List Step) (c : List ℕ) → IsAddress e n a c ↔ IsAddress f n a c
  pub labels : (t : Item) (l : Label) → IsIn (t, l) (labelled g e) ↔ IsIn (t, l) (labelled g f)
  pub entries : (x : Entry) → IsIn x (entries_of g e) ↔ IsIn x (entries_of g f)

-- two runs of a well-formed grammar with the same events are so
abbrev pub ReorderedLaw : Type 0
ReorderedLaw =
    (g : Grammar) (e f : List Event) → IsWellFormed g → IsRun g g.start e → IsRun g g.start f → ((x : Event) → IsIn x e ↔ IsIn x f) → AreReordered g e f

-- the intake takes these reports whole: it refuses none, holds none at the end, and has then an accepted run with the events that are reported, each once
pub record AreTaken (g : Grammar) (most : ℕ) (reports : List Report) : Type 0 where
  pub state : Intake
  pub goes_on : intake g most reports ≡ GoesOn state
  pub none_held : state.held ≡ []
  pub accepted : IsAccepted g most state.run
  pub events : (x : Event) → IsIn x (reported reports) ↔ IsIn x state.run
  pub once : AllDiffer state.run

-- Reports of all events of an accepted run and of nothing else, in whatever order and repeated, are taken whole. The run that the intake has then is the accepted one in another order
abbrev pub AnyOrderLaw : Type 0
AnyOrderLaw =
    (g : Grammar) (most : ℕ) (e : List Event) (reports : List Report) → IsAccepted g most e → ((x : Event) → IsIn x (reported reports) ↔ IsIn x e) →
    (taken : AreTaken g most reports) × (IsWellFormed g → AreReordered g e taken.state.run)

-- and no other reports are: where the intake goes on to the end, they are those of an accepted run
abbrev pub TakenLaw : Type 0
TakenLaw = (g : Grammar) (most : ℕ) (reports : List Report) (s : Intake) → intake g most reports ≡ GoesOn s → AreTaken g most reports

-- the run of the intake of any reports is accepted, whether it goes on or not, and has only events that are reported, each once
pub record IsRunOfSome (g : Grammar) (most : ℕ) (reports : List Report) (run : List Event) : Type 0 where
  pub accepted : IsAccepted g most run
  pub within : (x : Event) → IsIn x run → IsIn x (reported reports)
  pub once : AllDiffer run

abbrev pub AcceptedLaw : Type 0
AcceptedLaw = (g : Grammar) (most : ℕ) (reports : List Report) → IsRunOfSome g most reports (state_after (intake g most reports)).run

-- no held report is ready
abbrev pub NoneReady : Grammar → Intake → Type 0
NoneReady g s = (r : Report) → IsIn r s.held → is_ready g s.run r.event ≡ true → ⊥

-- as many times as reports are held are enough, and no report that is ready stays held
pub record AllReadyLaw : Type 0 where
  pub times : (g : Grammar) (most : ℕ) (s t : Intake) → apply_ready g most (length s.held) s ≡ GoesOn t → NoneReady g t
  pub reports : (g : Grammar) (most : ℕ) (reports : List Report) (t : Intake) → take_reports g most nothing_taken reports ≡ GoesOn t → NoneReady g t

-- More reports behind these are taken from the state that these leave, and not at all where one of these is refused. The events that were applied before are applied first, in the same order
pub record Grows (g : Grammar) (most : ℕ) (s : Intake) (reports more : List Report) : Type 0 where
  pub from : take_reports g most s (reports ++ more) ≡ and_then (take_reports g most s reports) (λ t. take_reports g most t more)
  pub begins : (later : List Event) × ((state_after (take_reports g most s (reports ++ more))).run ≡ (state_after (take_reports g most s reports)).run ++ later)

-- so it is from any state, and at the end of the reports as within them
pub record GrowingLaw : Type 0 where
  pub from : (g : Grammar) (most : ℕ) (s : Intake) (reports more : List Report) → Grows g most s reports more
  pub end : (g : Grammar) (most : ℕ) (reports : List Report) → state_after (intake g most reports) ≡ state_after (take_reports g most nothing_taken reports)

-- so the label file of the run of some reports begins that of more reports
abbrev pub FileOfMoreLaw : Type 0
FileOfMoreLaw =
    (g : Grammar) (digest : List ℕ) (most : ℕ) (reports more : List Report) →
    (rest : List ℕ) × (label_file g digest (state_after (intake g most (reports ++ more))).run ≡ label_file g digest (state_after (intake g most reports)).run ++ rest)

-- the state with this run, where these reports are held and known
abbrev pub state_of : List Event → List Report → List Report → Intake
state_of run held known = record { run = run; held = held; known = known }

-- reports of an accepted run in its own order are taken as they are: each is applied when it comes, and the run is the list of their events
abbrev pub InOrderLaw : Type 0
InOrderLaw =
    (g : Grammar) (most : ℕ) (reports : List Report) → IsAccepted g most (reported reports) →
    intake g most reports ≡ GoesOn (state_of (reported reports) [] reports)

-- A report that comes while none is held. One on a subject that is not known is applied where its event is ready and has no fault, refused with the fault where it has one, and held where it is not ready.
-- One on a known subject changes nothing where it reports the same event, and is refused as a conflict where it reports another
pub record IsTakenAlone (g : Grammar) (most : ℕ) (run : List Event) (known : List Report) (r : Report) : Type 0 where
  pub applied : find (about r.event) known ≡ None → is_ready g run r.event ≡ true → fault_of g most run r.event ≡ None →
      take_report g most (state_of run [] known) r ≡ GoesOn (state_of (run ++ r.event ∷ []) [] (known ++ r ∷ []))
  pub refused : find (about r.event) known ≡ None → is_ready g run r.event ≡ true → (f : RunFault) → fault_of g most run r.event ≡ Some f →
      take_report g most (state_of run [] known) r ≡ Stops (state_of run [] (known ++ r ∷ [])) (Refused r.line f)
  pub waits : find (about r.event) known ≡ None → is_ready g run r.event ≡ false →
      take_report g most (state_of run [] known) r ≡ GoesOn (state_of run (r ∷ []) (known ++ r ∷ []))
  pub repeated : (k : Report) → find (about r.event) known ≡ Some k → k.event ≡ r.event → take_report g most (state_of run [] known) r ≡ GoesOn (state_of run [] known)
  pub contradicts : (k : Report) → find (about r.event) known ≡ Some k → k.event ≢ r.event →
      take_report g most (state_of run [] known) r ≡ Stops (state_of run [] known) (Conflict r.line k.line)

-- so is each such report; by this a file in order is taken as far as it is in order
abbrev pub TakenAloneLaw : Type 0
TakenAloneLaw = (g : Grammar) (most : ℕ) (run : List Event) (known : List Report) (r : Report) → IsTakenAlone g most run known r

-- Why one of these reports is refused, where the run of the events applied so far is this one.
-- Conflict: the first of them that is about the same reports another event. Refused: the event is ready and has not been applied, and is not taken by the run, for this fault. Orphan: the event is not ready
pub data IsRefused (g : Grammar) (most : ℕ) (reports : List Report) (run : List Event) : ReportFault → Type 0 where
  contradicts : (r k : Report) → IsIn r reports → find (about r.event) reports ≡ Some k → k.event ≢ r.event → IsRefused g most reports run (Conflict r.line k.line)
  not_taken : (r : Report) (f : RunFault) → IsIn r reports → is_ready g run r.event ≡ true → (IsIn r.event run → ⊥) → fault_of g most run r.event ≡ Some f →
      f ≢ NotStarted → f ≢ StartedTwice → f ≢ UnknownInstance → f ≢ AlreadyExpanded → IsRefused g most reports run (Refused r.line f)
  never_ready : (r : Report) → IsIn r reports → is_ready g run r.event ≡ false → IsRefused g most reports run (Orphan r.line)

-- each refusal comes for its reason; four of the ten faults of a run do not come any more
abbrev pub RefusedLaw : Type 0
RefusedLaw = (g : Grammar) (most : ℕ) (reports : List Report) (s : Intake) (f : ReportFault) → intake g most reports ≡ Stops s f → IsRefused g most reports s.run f
