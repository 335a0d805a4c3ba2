-- What `ingest` writes begins with the head of the label file.
use Rattle.std.proofs.Common.{◌≡◌, ℕ, Bool, List, [], ◌∷◌, ◌++◌, Option, map, sym, ap, subst, ◌∙◌, append-nil}
use Rattle.std.specs.Prelude.{flat_map}
use Rattle.sha2.specs.Sha256.{sha256}
use Rattle.wf_model.specs.declared.event.Event.{Event}
use Rattle.wf_model.specs.Grammar.{Grammar}
use Rattle.wf_model.specs.Run.{IsAccepted}
use Rattle.wf_json.specs.Canonical.{canonical_of}
use Rattle.label_model.specs.RunLabels.{labelled_by}
use Rattle.label_model.specs.Files.{entry_of, entry_bytes}
use Rattle.label_model.proofs.FileGrowth.{file_step_law}
use Rattle.wf_io.specs.Told.{File}
use Rattle.wf_io.specs.Readings.{Reading}
use Rattle.wf_io.specs.Lines.{FileLines}
use Rattle.wf_spec.specs.Held.{HeldGrammar}
use Rattle.wf_message.specs.Endings.{End}
use Rattle.wf_stage.specs.Promises.{Obeys}
use Rattle.wf_stage.proofs.Ends.{Begins}
use Rattle.wf_inputs.specs.Inputs.{instance_most}
use Rattle.wf_inputs.specs.RunTold.{EventsStage}
use Rattle.wf_inputs.proofs.EventStages.{events_back}
use Rattle.cmd_ingest.specs.Ingested.{file_of, file_head, WritesFile}
use Rattle.cmd_ingest.specs.Does.{IngestsOver}

-- the label file of no events is its head
pub file_of_none : (g : Grammar) → file_of g [] ≡ file_head g
file_of_none g = append-nil (file_head g)

-- the bytes of the entries of the items that an event makes behind a run
abbrev pub bytes_by : Grammar → List Event → Event → List ℕ
bytes_by g before e = flat_map entry_bytes (map entry_of (labelled_by g (before ++ e ∷ []) e))

-- with them the text is the label file of one event more
pub file_more : (g : Grammar) (limit : ℕ) (before : List Event) (e : Event) → IsAccepted g limit (before ++ e ∷ []) → (piece : List ℕ) × (file_of g (before ++ e ∷ []) ≡ file_of g before ++ piece)
file_more g limit before e acc = (bytes_by g before e, file_step_law g (sha256 (canonical_of g)) before e acc.0)

-- the file of a run begins what is written of it
pub file_first : (g : Grammar) (es : List Event) (d : End) (t : List ℕ) → WritesFile g es d t → (rest : List ℕ) × (t ≡ file_of g es ++ rest)
file_first g es d t h = ([], h.1 ∙ sym (append-nil (file_of g es)))

-- what is written of a file of events begins with the head
pub events_begin_head : (g : Grammar) (file : FileLines) → Begins (file_head g) (EventsStage g instance_most file (file_of g) (WritesFile g))
events_begin_head g file d t h =
    let b = events_back file_of g instance_most (file_more g instance_most) (WritesFile g) (file_first g) file d t h in
    (b.0, b.1 ∙ ap (λ x. x ++ b.0) (file_of_none g))

-- the same by the same grammar
pub ingests_same : {S T : Type 0} {files : S → Option (List ℕ → File)} {readings : S → Option (List Reading)} {faults : S → ℕ} {last : S → Bool} {bytes : T → Option (List ℕ)} {counts : T → ℕ} {out_last : T → Bool} (name : List ℕ) (g h : HeldGrammar) (s t : S) (o p : T) (e : End) → g ≡ h →
    Obeys files readings faults last bytes counts out_last (name ∷ []) (file_head g.core) (λ f. IngestsOver g.core (f name)) s t o p e →
    Obeys files readings faults last bytes counts out_last (name ∷ []) (file_head h.core) (λ f. IngestsOver h.core (f name)) s t o p e
ingests_same {files = files} {readings = readings} {faults = faults} {last = last} {bytes = bytes} {counts = counts} {out_last = out_last} name g h s t o p e same =
    subst (λ (x : HeldGrammar). Obeys files readings faults last bytes counts out_last (name ∷ []) (file_head x.core) (λ f. IngestsOver x.core (f name)) s t o p e) same
