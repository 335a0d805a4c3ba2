-- What contracts see of a label file that was opened, and what it was opened from.
use Rattle.std.specs.Prelude.{◌≡◌, ◌≤◌, ℕ, List}
use Rattle.wf_model.specs.Grammar.{Grammar}
use Rattle.wf_model.specs.View.{View}
use Rattle.label_model.specs.Files.{Entry, Accepted, Opens}
use Rattle.wf_spec.specs.Held.{HeldGrammar}
use Rattle.wf_json.specs.Digests.{digests_of}
use Rattle.label_file.specs.Stored.{EntryHeld, AreHeldOf, IsStoreFor}
use Rattle.wf_vlabel.specs.Seen.{ViewLabelSeen, IsLabelOfView}
use Rattle.wf_decode.specs.Reading.{most_legs}

-- the label of a view, and what is held of the entries of a label file
pub record DeciderSeen : Type 0 where
  pub label : ViewLabelSeen
  pub held : List EntryHeld

-- what is held fits the grammar of the label, and there is room for two labels
pub record IsReady (l : ViewLabelSeen) (held : List EntryHeld) (room : ℕ) : Type 0 where
  pub store : IsStoreFor l.grammar held
  pub enough : most_legs l.grammar ≤ room

-- it was opened with these entries, which are of the grammar, and under the view
pub record IsOpenedFrom (d : DeciderSeen) (g : Grammar) (u : View) (entries : List Entry) : Type 0 where
  pub grammar : d.label.grammar ≡ g
  pub view : IsLabelOfView d.label u
  pub held : AreHeldOf g entries d.held

-- the bytes are a label file of the grammar or of one of its earlier versions, by the digests of their canonical texts, and it was opened with the entries that they tell
abbrev pub IsOpened : HeldGrammar → View → List ℕ → DeciderSeen → Type 0
IsOpened h u bytes d = (entries : List Entry) × Opens h.core (digests_of h) bytes (Accepted entries) × IsOpenedFrom d h.core u entries
