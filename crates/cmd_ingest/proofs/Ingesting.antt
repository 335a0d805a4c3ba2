-- How `ingest` ends, where the lines of EVENTS were taken behind the head of the label file.
use Rattle.std.proofs.Common.{◌≡◌, ℕ, List, [], ◌++◌, Option, Some, refl, ap, ◌∙◌, subst, inl, inr, append-nil}
use Rattle.std.specs.Prelude.{codes}
use Rattle.wf_model.specs.Grammar.{Grammar}
use Rattle.wf_laws.proofs.Accepted.{none_taken}
use Rattle.wf_io.specs.Lines.{FileLines}
use Rattle.wf_lines.specs.LineStages.{AllTaken, OfLines, ClosesOrGoesOn}
use Rattle.wf_lines.specs.Taking.{AreTaken, AreStopped}
use Rattle.wf_message.specs.Endings.{End, Done, WriteFault}
use Rattle.wf_stage.specs.Ends.{EndsBehind, IsOfOutcome}
use Rattle.wf_stage.specs.LineEnds.{line_ends}
use Rattle.wf_stage.proofs.LineOutcomes.{stopped_ends, taken_ends}
use Rattle.wf_inputs.specs.Inputs.{instance_most}
use Rattle.wf_inputs.specs.RunTold.{EventsStage}
use Rattle.wf_inputs.specs.RunTaking.{TakenSoFar, none_taken_of, TakesReport, StopsReport, HoldsNone, StopsHolding, IsAcceptedSoFar}
use Rattle.wf_inputs.proofs.EventStages.{events_forth, events_back, events_one_way, events_closed_one_way, GoesOn}
use Rattle.cmd_ingest.specs.Ingested.{file_of, file_head, WritesFile}
use Rattle.cmd_ingest.proofs.HeadFirst.{file_of_none, file_more, file_first}

module _ (g : Grammar) (file : FileLines) where
  -- what `ingest` makes of EVENTS
  abbrev pub Made : End → List ℕ → Type 0
  Made = EventsStage g instance_most file (file_of g) (WritesFile g)

  -- behind the last line a report is held, or the label file is whole
  abbrev Closes : TakenSoFar → End → List ℕ → Type 0
  Closes = GoesOn file_of g instance_most (WritesFile g)

  forth : (e : End) (t : List ℕ) → OfLines (line_ends (codes "events")) (TakesReport file_of) (StopsReport file_of) Closes (none_taken_of g) file.lines file.tail e t → Made e (file_head g ++ t)
  forth e t h = subst (λ x. Made e (x ++ t)) (file_of_none g) (events_forth file_of g instance_most (WritesFile g) file e t h)

  back : (e : End) (t : List ℕ) → Made e t → (made : List ℕ) × (t ≡ file_head g ++ made) × OfLines (line_ends (codes "events")) (TakesReport file_of) (StopsReport file_of) Closes (none_taken_of g) file.lines file.tail e made
  back e t h =
      let b = events_back file_of g instance_most (file_more g instance_most) (WritesFile g) (file_first g) file e t h in
      (b.0, b.1 ∙ ap (λ x. x ++ b.0) (file_of_none g), b.2)

  goes : (q : TakenSoFar) (e : End) (t : List ℕ) → Closes q e t → ClosesOrGoesOn HoldsNone StopsHolding q e t
  goes q e t (inl h) = inl h
  goes q e t (inr h) = inr ([], t, (h.0, refl), refl)

  -- the lines of EVENTS were taken
  abbrev pub AreLabelled : (TakenSoFar → Type 0) → Option (List ℕ) → Option (List ℕ) → Type 0
  AreLabelled IsAt old new = AreTaken (AllTaken (line_ends (codes "events")) (TakesReport file_of) (StopsReport file_of) (none_taken_of g) file.lines) HoldsNone IsAt file.tail old new

  -- then the label file is written
  pub labelled_ends : {IsAt : TakenSoFar → Type 0} (old new : Option (List ℕ)) → AreLabelled IsAt old new → EndsBehind (file_head g) Made Done old new
  labelled_ends old new taken =
      taken_ends (line_ends (codes "events")) (TakesReport file_of) (StopsReport file_of) HoldsNone StopsHolding Closes (file_head g) Made (none_taken_of g) file forth back goes
      IsAcceptedSoFar (events_one_way file_of) events_closed_one_way (none_taken g instance_most) Done (λ w. (cc)) (λ q last none. inr (none.0, (refl, ap (λ x. file_of g q.state.run ++ x) none.1 ∙ append-nil (file_of g q.state.run)))) old new taken

  -- they were stopped
  abbrev pub AreLabelledTo : Option End → Type 0 → Option (List ℕ) → Option (List ℕ) → Type 0
  AreLabelledTo end Failed old new =
      AreStopped (OfLines (line_ends (codes "events")) (TakesReport file_of) (StopsReport file_of) StopsHolding (none_taken_of g) file.lines file.tail)
      (OfLines (line_ends (codes "events")) (TakesReport file_of) (StopsReport file_of) (ClosesOrGoesOn HoldsNone StopsHolding) (none_taken_of g) file.lines file.tail) end Failed old new

  -- then `ingest` ends so
  pub stopped_at : (end : Option End) (e : End) (Failed : Type 0) (old new : Option (List ℕ)) → (IsOfOutcome e → end ≡ Some e) → (e ≡ WriteFault → Failed) → AreLabelledTo end Failed old new → EndsBehind (file_head g) Made e old new
  stopped_at end e Failed old new is failed stopped =
      stopped_ends (line_ends (codes "events")) (TakesReport file_of) (StopsReport file_of) HoldsNone StopsHolding Closes (file_head g) Made (none_taken_of g) file forth back goes
      (λ q d t holds. inl holds) end e Failed old new is failed stopped
