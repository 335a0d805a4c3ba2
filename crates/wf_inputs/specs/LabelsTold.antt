-- What the bytes of a label file tell: entries, or why they are refused.
use Rattle.std.specs.Prelude.{◌≡◌, List, ℕ, ◌++◌, codes, decimal}
use Rattle.wf_spec.specs.Held.{HeldGrammar}
use Rattle.wf_json.specs.Digests.{digests_of}
use Rattle.label_model.specs.Files.{Entry, Answer, Accepted, NotLabels, OtherSpec, Truncated, BadName, NameTwice, BadLabel, Opens}

-- bytes are read as a label file of the grammar or of one of its earlier versions, by the digests of their canonical texts
abbrev pub OpensFor : HeldGrammar → List ℕ → Answer → Type 0
OpensFor h = Opens h.core (digests_of h)

-- the bytes are a label file of the grammar or of one of its earlier versions, with these entries
abbrev pub TellsEntries : HeldGrammar → List ℕ → List Entry → Type 0
TellsEntries h bytes entries = OpensFor h bytes (Accepted entries)

-- the text of what is wrong first in a label file: its name, and behind it the offset of the entry that is not whole, or the number of the entry that is wrong
abbrev pub IsFaultText : Answer → List ℕ → Type 0
IsFaultText (Accepted entries) fault = ⊥
IsFaultText NotLabels fault = fault ≡ codes "NotLabels"
IsFaultText OtherSpec fault = fault ≡ codes "OtherSpec"
IsFaultText (Truncated offset) fault = fault ≡ codes "Truncated offset " ++ decimal offset
IsFaultText (BadName entry) fault = fault ≡ codes "BadName entry " ++ decimal entry
IsFaultText (NameTwice entry) fault = fault ≡ codes "NameTwice entry " ++ decimal entry
IsFaultText (BadLabel entry) fault = fault ≡ codes "BadLabel entry " ++ decimal entry

-- why bytes are refused as a label file of the grammar and of its earlier versions
abbrev pub RefusesLabels : HeldGrammar → List ℕ → List ℕ → Type 0
RefusesLabels h bytes fault = (a : Answer) × OpensFor h bytes a × IsFaultText a fault
