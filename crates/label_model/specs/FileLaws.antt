-- Laws of label files: how they grow with the run, and how they are read, whole or cut.
use Rattle.std.specs.Prelude.{◌≡◌, ℕ, ◌+◌, ◌^◌, ◌<◌, ◌≤◌, List, [], ◌∷◌, ◌++◌, map, take, flat_map, length}
use Rattle.wf_model.specs.Lists.{IsIn, AllDiffer}
use Rattle.wf_model.specs.Grammar.{Grammar}
use Rattle.wf_model.specs.WellFormed.{IsWellFormed}
use Rattle.wf_model.specs.declared.event.Event.{Event}
use Rattle.wf_model.specs.Run.{IsRun, IsAccepted}
use Rattle.wf_model.specs.Linear.{IsLinear}
use Rattle.label_model.specs.RunLabels.{labelled_by}
use Rattle.label_model.specs.Reading.{IsLabelBytes}
use Rattle.wf_model.specs.Items.{IsItemName}
use Rattle.label_model.specs.Files.{Entry, entry_bytes, entry_of, entries_of, head_bytes, label_file, HasRoom, names_of_entries, Answer, Accepted, NotLabels, Truncated, Opens}

-- the label file of a run begins the label file of each run that goes on from it
abbrev pub FileGrowsLaw : Type 0
FileGrowsLaw =
    (g : Grammar) (digest : List ℕ) (events more : List Event) → IsRun g g.start (events ++ more) →
    (rest : List ℕ) × (label_file g digest (events ++ more) ≡ label_file g digest events ++ rest)

-- an event adds the entries of the items that it makes
abbrev pub FileStepLaw : Type 0
FileStepLaw =
    (g : Grammar) (digest : List ℕ) (events : List Event) (e : Event) → IsRun g g.start (events ++ e ∷ []) →
    label_file g digest (events ++ e ∷ []) ≡ label_file g digest events ++ flat_map entry_bytes (map entry_of (labelled_by g (events ++ e ∷ []) e))

-- bytes are read as a label file in one way
abbrev pub OneReadingLaw : Type 0
OneReadingLaw = (g : Grammar) (digests : List (List ℕ)) (bytes : List ℕ) (a b : Answer) → Opens g digests bytes a → Opens g digests bytes b → a ≡ b

-- entries with room for their lengths, names of items, which differ, and labels of the grammar
pub record AreGood (g : Grammar) (es : List Entry) : Type 0 where
  pub room : (e : Entry) → IsIn e es → HasRoom e
  pub names : (e : Entry) → IsIn e es → IsItemName e.name
  pub labels : (e : Entry) → IsIn e es → IsLabelBytes g e.label
  pub differ : AllDiffer (names_of_entries es)

-- the offset at which the entries behind these begin
abbrev pub offset_behind : List ℕ → List Entry → ℕ
offset_behind digest before = length (head_bytes digest ++ flat_map entry_bytes before)

-- where a file of these entries may be cut: within the head, behind the head or an entry, or within an entry
pub data IsCutPlace (digest : List ℕ) (es : List Entry) (k : ℕ) : Type 0 where
  in_head : k < 36 → IsCutPlace digest es k
  behind : (before later : List Entry) → es ≡ before ++ later → k ≡ offset_behind digest before → IsCutPlace digest es k
  within : (before : List Entry) (e : Entry) (later : List Entry) → es ≡ before ++ e ∷ later →
      (n : ℕ) → 0 < n → n < length (entry_bytes e) → k ≡ offset_behind digest before + n → IsCutPlace digest es k

-- What the first bytes of a file of these entries are read as, with its digest among others. In the head they are no label file; at the end of the head or of an entry they hold the entries before; within an entry they are refused with the offset of this entry.
-- Each length up to that of the file is of one of these three kinds
pub record IsCut (g : Grammar) (digest file : List ℕ) (es : List Entry) : Type 0 where
  pub places : (k : ℕ) → k ≤ length file → IsCutPlace digest es k
  pub head : (digests : List (List ℕ)) (k : ℕ) → k < 36 → Opens g digests (take k file) NotLabels
  pub entries : (digests : List (List ℕ)) → IsIn digest digests → (before later : List Entry) → es ≡ before ++ later → Opens g digests (take (offset_behind digest before) file) (Accepted before)
  pub within : (digests : List (List ℕ)) → IsIn digest digests → (before : List Entry) (e : Entry) (later : List Entry) → es ≡ before ++ e ∷ later → (k : ℕ) → 0 < k → k < length (entry_bytes e) →
      Opens g digests (take (offset_behind digest before + k) file) (Truncated (offset_behind digest before))

-- so it is for each file of good entries
abbrev pub CutEntriesLaw : Type 0
CutEntriesLaw = (g : Grammar) (digest : List ℕ) → length digest ≡ 32 → (es : List Entry) → AreGood g es → IsCut g digest (head_bytes digest ++ flat_map entry_bytes es) es

-- the entries of the label file of an accepted run are good
abbrev pub GoodFileLaw : Type 0
GoodFileLaw = (g : Grammar) → IsWellFormed g → IsLinear g → (events : List Event) → IsAccepted g (2 ^ 24) events → AreGood g (entries_of g events)

-- what the label file of an accepted run is read as where it is cut
abbrev pub CutLaw : Type 0
CutLaw =
    (g : Grammar) → IsWellFormed g → IsLinear g → (digest : List ℕ) → length digest ≡ 32 → (events : List Event) → IsAccepted g (2 ^ 24) events →
    IsCut g digest (label_file g digest events) (entries_of g events)
