-- What `ingest` writes of more events begins with what it writes of fewer.
use Rattle.std.proofs.Common.{◌≡◌, ℕ, List, [], ◌∷◌, ◌++◌, sym, ap, ◌∙◌, subst, inl, inr, append-nil, append_assoc}
use Rattle.std.specs.Prelude.{codes}
use Rattle.std.proofs.lemmas.List.{append_cancel_left}
use Rattle.sha2.specs.Sha256.{sha256}
use Rattle.wf_model.specs.declared.event.Event.{Event}
use Rattle.wf_model.specs.Grammar.{Grammar}
use Rattle.wf_model.specs.Run.{IsAccepted}
use Rattle.wf_laws.proofs.Accepted.{none_taken}
use Rattle.wf_json.specs.Canonical.{canonical_of}
use Rattle.label_model.proofs.FileGrowth.{file_step_law}
use Rattle.report_model.specs.Intake.{nothing_taken}
use Rattle.wf_io.specs.Told.{File}
use Rattle.wf_io.specs.Lines.{FileLines, lines_in}
use Rattle.wf_lines.proofs.Growing.{GoOnFrom, lines_grow}
use Rattle.wf_message.specs.Endings.{End}
use Rattle.wf_stage.specs.LineEnds.{line_ends}
use Rattle.wf_stage.specs.Stages.{OfWhole, too_long, broken, refused, goes_on}
use Rattle.wf_stage.proofs.TwoStages.{stage_goes_on}
use Rattle.wf_inputs.specs.Inputs.{spec_kind, instance_most}
use Rattle.wf_inputs.specs.Specification.{TellsGrammar, RefusesSpec}
use Rattle.wf_inputs.specs.RunTold.{EventsStage}
use Rattle.wf_inputs.specs.RunTaking.{TakenSoFar, TakesReport, StopsReport, IsAcceptedSoFar}
use Rattle.wf_inputs.proofs.OneValue.{one_grammar}
use Rattle.wf_inputs.proofs.OneFault.{no_refusal}
use Rattle.wf_inputs.proofs.EventStages.{after, GoesOn, events_one_way, events_back}
use Rattle.cmd_ingest.specs.Ingested.{file_of, WritesFile}
use Rattle.cmd_ingest.specs.Does.{Ingests}
use Rattle.cmd_ingest.proofs.HeadFirst.{file_first}
use Rattle.outcome_laws.specs.Laws.{IngestGrowsLaw, IsSealed}
use Rattle.outcome_laws.proofs.GrownLines.{lines_go_on}

-- what is written of the lines of a file
abbrev IsWrittenOf : Grammar → FileLines → End → List ℕ → Type 0
IsWrittenOf g file = EventsStage g instance_most file (file_of g) (WritesFile g)

-- what is made at the end of a file
abbrev ClosesFile : Grammar → TakenSoFar → End → List ℕ → Type 0
ClosesFile g = GoesOn file_of g instance_most (WritesFile g)

-- behind the last line nothing is made, whether a report is held or not
nothing_more : (g : Grammar) (s : TakenSoFar) (e : End) (t : List ℕ) → ClosesFile g s e t → t ≡ []
nothing_more g s e t (inl h) = h.4
nothing_more g s e t (inr h) = append_cancel_left (file_of g s.state.run) t [] (h.1.1 ∙ sym (append-nil (file_of g s.state.run)))

-- the label file of a run begins that of one event more
file_grows : (g : Grammar) (before : List Event) (e : Event) → IsAccepted g instance_most (before ++ e ∷ []) → (piece : List ℕ) × (file_of g (before ++ e ∷ []) ≡ file_of g before ++ piece)
file_grows g before e acc = (_, file_step_law g (sha256 (canonical_of g)) before e acc.0)

-- what is written of lines begins what is written of lines that go on from them
lines_begin : (g : Grammar) (file later : FileLines) → GoOnFrom file.lines later.lines → (d e : End) (t s : List ℕ) → IsWrittenOf g file d t → IsWrittenOf g later e s → (rest : List ℕ) × (s ≡ t ++ rest)
lines_begin g file later on d e t s p q =
    let a = events_back file_of g instance_most (file_grows g) (WritesFile g) (file_first g) file d t p in
    let b = events_back file_of g instance_most (file_grows g) (WritesFile g) (file_first g) later e s q in
    let r = lines_grow (line_ends (codes "events")) (TakesReport file_of) (StopsReport file_of) IsAcceptedSoFar (events_one_way file_of) (ClosesFile g) (ClosesFile g) later.tail (nothing_more g) file.tail file.lines later.lines (after g instance_most nothing_taken) d e a.0 b.0 (none_taken g instance_most) on a.2 b.2 in
    (r.0, b.1 ∙ (ap (λ x. file_of g [] ++ x) r.1 ∙ (sym (append_assoc (file_of g []) a.0 r.0) ∙ ap (λ x. x ++ r.0) (sym a.1))))

module _ (spec events later : File) (more : List ℕ) (sealed : IsSealed events) (longer : later.bytes ≡ events.bytes ++ more) where
  -- the grammar of SPEC is one; where SPEC is refused, nothing is written
  all_grow : (d e : End) (t s : List ℕ) → Ingests spec events d t → Ingests spec later e s → (rest : List ℕ) × (s ≡ t ++ rest)
  all_grow d e t s (too_long l x y) q = (s, sym (ap (λ z. z ++ s) y))
  all_grow d e t s (broken l b x y) q = (s, sym (ap (λ z. z ++ s) y))
  all_grow d e t s (refused l b line fault r x y) q = (s, sym (ap (λ z. z ++ s) y))
  all_grow d e t s (goes_on l b h told next) q =
      lines_begin h.core (lines_in events) (lines_in later) (lines_go_on events later more sealed longer) d e t s next
      (stage_goes_on spec_kind [] spec TellsGrammar (OfWhole RefusesSpec) (λ k. IsWrittenOf k.core (lines_in later)) h l b (λ k is. one_grammar spec.bytes h k told is) (λ n x r. no_refusal spec.bytes x h told r.1) e s q)

pub ingest_grows_law : IngestGrowsLaw
ingest_grows_law files more_files spec events more t s d e same sealed longer first later =
    all_grow (files spec) (files events) (more_files events) more sealed longer d e t s first (subst (λ f. Ingests f (more_files events) e s) same later)
