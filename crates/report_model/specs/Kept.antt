-- Reports that are kept in one list for ever, with marks on those that are held and on those that are ready: what a table of reports stands for while they are taken.
use Rattle.std.specs.Prelude.{◌≡◌, ℕ, ◌<◌, Bool, true, false, List, [], map, length, get_or}
use Rattle.wf_model.specs.Grammar.{Grammar}
use Rattle.wf_model.specs.declared.event.Event.{Event}
use Rattle.wf_model.specs.declared.event.Event.TheVariants.{Start}
use Rattle.report_model.specs.Reports.{Report}
use Rattle.report_model.specs.Intake.{ready_in}

-- a report that was ever held, whether it is held still, and whether its event is ready
pub record Kept : Type 0 where
  pub report : Report
  pub held : Bool
  pub ready : Bool

abbrev pub report_of : Kept → Report
report_of k = k.report

abbrev pub is_held : Kept → Bool
is_held k = k.held

abbrev pub reports_of : List Kept → List Report
reports_of = map report_of

-- the report of a place, and one that is not held past the end
abbrev pub kept_at : List Kept → ℕ → Kept
kept_at kept k = get_or kept k (record { report = record { line = 0; event = Start [] }; held = false; ready = false })

-- a report that comes to be held
abbrev pub newly_kept : Report → Bool → Kept
newly_kept r ready = record { report = r; held = true; ready = ready }

-- the report is held no longer
abbrev pub let_go : Kept → Kept
let_go k = record { report = k.report; held = false; ready = k.ready }

-- no held report before this place is marked as ready
abbrev pub NoneReadyBefore : List Kept → ℕ → Type 0
NoneReadyBefore kept k = (j : ℕ) → j < k → (kept_at kept j).held ≡ true → (kept_at kept j).ready ≡ true → ⊥

-- the report of this place is the first that is held and marked as ready
pub record IsFirstReady (kept : List Kept) (k : ℕ) : Type 0 where
  pub within : k < length kept
  pub held : (kept_at kept k).held ≡ true
  pub ready : (kept_at kept k).ready ≡ true
  pub first : NoneReadyBefore kept k

-- no report before this place is held
abbrev pub NoneHeldBefore : List Kept → ℕ → Type 0
NoneHeldBefore kept k = (j : ℕ) → j < k → (kept_at kept j).held ≡ true → ⊥

-- each report that is held is marked as ready exactly where its event is ready after a run
abbrev pub AreMarked : Grammar → List Event → List Kept → Type 0
AreMarked g run kept = (k : ℕ) → k < length kept → (kept_at kept k).held ≡ true → (kept_at kept k).ready ≡ ready_in g run (kept_at kept k).report
