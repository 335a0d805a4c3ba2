-- How the parts of an inbox stand to each other.
use Rattle.std.specs.Prelude.{◌≡◌, ℕ, ◌+◌, ◌≤◌, ◌^◌, ◌==◌, Bool, true, false, cond, ◌&&◌, List, map, length, Option}
use Rattle.std.specs.List.{count_by}
use Rattle.wf_model.specs.declared.event.Event.{Event}
use Rattle.report_model.specs.Reports.{subject_of, same_event}
use Rattle.report_model.specs.Kept.{Kept, is_held, kept_at}
use Rattle.wf_inbox.specs.declared.inbox.Offer.{Offer}
use Rattle.wf_inbox.specs.declared.inbox.Offer.TheVariants.{Repeat}
use Rattle.wf_inbox.specs.declared.inbox.InboxFault.{InboxFault}
use Rattle.wf_inbox.specs.declared.inbox.InboxFault.TheVariants.{Conflict}

-- what a kept report is about
abbrev pub subject_kept : Kept → Option (List ℕ)
subject_kept k = subject_of k.report.event

-- a report is held, and ready
abbrev pub is_due : Kept → Bool
is_due k = k.held && k.ready

-- a report that is held is marked as ready
abbrev pub made_ready : Kept → Kept
made_ready k = cond k.held (record { report = k.report; held = k.held; ready = true }) k

-- an event is that of the report on its subject: it is a repetition
pub record IsRepeated (k : Kept) (e : Event) (o : Offer) : Type 0 where
  pub repeats : o ≡ Repeat
  pub same : same_event k.report.event e ≡ true

-- it is another: it is in conflict with that report
pub record IsOpposed (k : Kept) (e : Event) (f : InboxFault) : Type 0 where
  pub conflicts : f ≡ Conflict k.report.line
  pub other : same_event k.report.event e ≡ false

-- how often a place stands in a list
abbrev pub times : ℕ → List ℕ → ℕ
times place places = count_by (λ p. place == p) places

-- a place is added if it is due, and no other
abbrev pub AddsIf : Bool → ℕ → List ℕ → List ℕ → Type 0
AddsIf due place old new = (k : ℕ) → times k new ≡ times k old + cond (due && (k == place)) 1 0

-- The subjects are those of the reports, the places those of the reports that are held and ready, each once, and the number is that of the reports that are held. A place fits 32 bits
pub record AreTogether (names : List (Option (List ℕ))) (kept : List Kept) (ready : List ℕ) (count : ℕ) : Type 0 where
  pub subjects : names ≡ map subject_kept kept
  pub places : (k : ℕ) → times k ready ≡ cond (is_due (kept_at kept k)) 1 0
  pub held : count ≡ count_by is_held kept
  pub few : length kept ≤ 2 ^ 32
