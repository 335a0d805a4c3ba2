-- The label file of the events of a run.
use Rattle.std.specs.Prelude.{◌≡◌, ℕ, List}
use Rattle.sha2.specs.Sha256.{sha256}
use Rattle.wf_model.specs.declared.event.Event.{Event}
use Rattle.wf_model.specs.Grammar.{Grammar}
use Rattle.wf_json.specs.Canonical.{canonical_of}
use Rattle.label_model.specs.Files.{head_bytes, label_file}
use Rattle.wf_message.specs.Endings.{End, Done}

-- the label file of a run of a grammar, with the digest of the grammar in its head
abbrev pub file_of : Grammar → List Event → List ℕ
file_of g es = label_file g (sha256 (canonical_of g)) es

-- its head
abbrev pub file_head : Grammar → List ℕ
file_head g = head_bytes (sha256 (canonical_of g))

-- the label file of a run is written, and that is all
abbrev pub WritesFile : Grammar → List Event → End → List ℕ → Type 0
WritesFile g es ending text = (ending ≡ Done) × (text ≡ file_of g es)
