-- What an inbox does with reports.
use Rattle.std.specs.Prelude.{◌≡◌, ℕ, ◌<◌, Bool, true, false, cond, ◌&&◌, List, ◌∷◌, [], ◌++◌, length, Option, Some, None, bytes_eq}
use Rattle.std.specs.Option.{option_eq}
use Rattle.std.specs.List.{find, slice_set}
use Rattle.wf_model.specs.declared.event.Event.{Event}
use Rattle.report_model.specs.Reports.{Report, subject_of, same_event, about}
use Rattle.report_model.specs.Kept.{Kept, reports_of, kept_at, newly_kept, let_go, IsFirstReady, NoneReadyBefore, NoneHeldBefore}
use Rattle.wf_inbox.specs.declared.inbox.Offer.{Offer}
use Rattle.wf_inbox.specs.declared.inbox.Offer.TheVariants.{Kept as IsHeld, Repeat}
use Rattle.wf_inbox.specs.declared.inbox.InboxFault.{InboxFault}
use Rattle.wf_inbox.specs.declared.inbox.InboxFault.TheVariants.{Conflict, NoMemory}
use Rattle.wf_inbox.specs.declared.inbox.Held.{Held}

-- what contracts see of an inbox: the reports that were ever held, in the order in which they came, and how many names it has room for
pub record InboxSeen : Type 0 where
  pub kept : List Kept
  pub spare : ℕ

-- the report that was held before on the subject of this one, if there is one
abbrev pub known_on : List Kept → Event → Option Report
known_on kept x = find (about x) (reports_of kept)

-- the report is about the instance of this name
abbrev pub is_about : List ℕ → Kept → Bool
is_about name k = option_eq bytes_eq (subject_of k.report.event) (Some name)

-- a held report about the instance of this name is marked as ready
abbrev pub marked : List ℕ → Kept → Kept
marked name k = cond (k.held && is_about name k) (record { report = k.report; held = k.held; ready = true }) k

-- a report is kept: its subject is new
pub record IsKept (old new : List Kept) (r : Report) (ready : Bool) : Type 0 where
  pub first : known_on old r.event ≡ None
  pub added : new ≡ old ++ newly_kept r ready ∷ []

-- a report is a repetition: the one on its subject reports the same event
abbrev pub IsRepeat : List Kept → Report → Type 0
IsRepeat old r = (k : Report) × (known_on old r.event ≡ Some k) × (same_event k.event r.event ≡ true)

-- a report contradicts the one on its subject, of this earlier line
abbrev pub Contradicts : List Kept → Report → ℕ → Type 0
Contradicts old r earlier = (k : Report) × (known_on old r.event ≡ Some k) × (same_event k.event r.event ≡ false) × (k.line ≡ earlier)

-- what becomes of a report by the line of a number that is offered: it is kept; or it is a repetition, and the reports stay
abbrev pub IsOffered : List Kept → List Kept → ℕ → Event → Bool → Offer → Type 0
IsOffered old new line e ready IsHeld = IsKept old new (record { line = line; event = e }) ready
IsOffered old new line e ready Repeat = IsRepeat old (record { line = line; event = e }) × (new ≡ old)

-- why it is not taken: it contradicts the one of an earlier line, if it is not for memory
abbrev pub IsContradicted : List Kept → ℕ → Event → InboxFault → Type 0
IsContradicted old line e (Conflict earlier) = Contradicts old (record { line = line; event = e }) earlier
IsContradicted old line e NoMemory = Unit {0}

-- the first report that is ready is let go
abbrev pub IsNext : List Kept → List Kept → Report → Type 0
IsNext old new r = (k : ℕ) × IsFirstReady old k × ((kept_at old k).report ≡ r) × (new ≡ slice_set old k (let_go (kept_at old k)))

-- this report is the first that is held and ready
abbrev pub IsFirstHeld : List Kept → Held → Type 0
IsFirstHeld kept h = (k : ℕ) × IsFirstReady kept k × ((kept_at kept k).report ≡ record { line = h.line; event = h.event })

-- the first report that is ready, if there is one, is let go
abbrev pub IsFirstLetGo : List Kept → List Kept → Type 0
IsFirstLetGo old new = (k : ℕ) → IsFirstReady old k → new ≡ slice_set old k (let_go (kept_at old k))

-- no report that is held is ready
abbrev pub NoneReady : List Kept → Type 0
NoneReady kept = NoneReadyBefore kept (length kept)

-- the first report that is held is of this line
abbrev pub IsOrphan : List Kept → ℕ → Type 0
IsOrphan kept line = (k : ℕ) × (k < length kept) × ((kept_at kept k).held ≡ true) × NoneHeldBefore kept k × ((kept_at kept k).report.line ≡ line)

-- no report is held
abbrev pub NoneHeld : List Kept → Type 0
NoneHeld kept = NoneHeldBefore kept (length kept)
