-- Label files: the file of a run, and how bytes are read as a label file.
use Rattle.std.specs.Prelude.{◌≡◌, ◌≢◌, ℕ, ◌+◌, ◌/◌, ◌%◌, ◌^◌, ◌<◌, List, [], ◌∷◌, ◌++◌, map, length, flat_map, codes}
use Rattle.wf_model.specs.Lists.{IsIn}
use Rattle.wf_model.specs.Grammar.{Grammar}
use Rattle.wf_model.specs.declared.event.Event.{Event}
use Rattle.wf_model.specs.Items.{Item, IsItemName}
use Rattle.bit_pack.specs.Bits.{packed}
use Rattle.label_model.specs.Labels.{Label, label_bits}
use Rattle.label_model.specs.RunLabels.{labelled}
use Rattle.label_model.specs.Reading.{IsLabelBytes}

-- an entry of a label file: a name and the bytes of a label
pub record Entry : Type 0 where
  pub name : List ℕ
  pub label : List ℕ

-- the name with its length before it, and the label with its length before it in two bytes
abbrev pub entry_bytes : Entry → List ℕ
entry_bytes e = (length e.name ∷ []) ++ e.name ++ (length e.label / 256 ∷ length e.label % 256 ∷ []) ++ e.label

-- the entry of an item with its label
abbrev pub entry_of : Item × Label → Entry
entry_of t = record { name = t.0.name; label = packed (label_bits t.1) }

-- the entries of the items of a run, in order of making
abbrev pub entries_of : Grammar → List Event → List Entry
entries_of g events = map entry_of (labelled g events)

-- the head of a label file: the four letters WFL1 and the digest of a grammar
abbrev pub head_bytes : List ℕ → List ℕ
head_bytes digest = codes "WFL1" ++ digest

-- the label file of a run of a grammar with this digest
abbrev pub label_file : Grammar → List ℕ → List Event → List ℕ
label_file g digest events = head_bytes digest ++ flat_map entry_bytes (entries_of g events)

-- the two lengths have room in the bytes of an entry
abbrev pub HasRoom : Entry → Type 0
HasRoom e = (length e.name < 2 ^ 8) × (length e.label < 2 ^ 16)

-- the names of entries, in order
abbrev pub names_of_entries : List Entry → List (List ℕ)
names_of_entries es = map (λ (e : Entry). e.name) es

-- what the reading of a label file answers: its entries, or what is wrong first
pub data Answer : Type 0 where
  Accepted : (entries : List Entry) → Answer
  NotLabels : Answer
  OtherSpec : Answer
  Truncated : (offset : ℕ) → Answer
  BadName : (entry_no : ℕ) → Answer
  NameTwice : (entry_no : ℕ) → Answer
  BadLabel : (entry_no : ℕ) → Answer

-- a whole entry stands at the front of the bytes
pub record IsFront (e : Entry) (bytes rest : List ℕ) : Type 0 where
  pub room : HasRoom e
  pub is : bytes ≡ entry_bytes e ++ rest

-- The entries from an offset on are read, after those before; the first entry at fault tells the answer.
-- Of one entry it is tried in this order: whether it is whole, whether its name is that of an item, whether no entry before has the name, and whether its label is one of the grammar
pub data ReadsFrom (g : Grammar) : ℕ → List Entry → List ℕ → Answer → Type 0 where
  at_end : {offset : ℕ} {before : List Entry} → ReadsFrom g offset before [] (Accepted before)
  cut : {offset : ℕ} {before : List Entry} {bytes : List ℕ} → bytes ≢ [] → ((e : Entry) (rest : List ℕ) → IsFront e bytes rest → ⊥) → ReadsFrom g offset before bytes (Truncated offset)
  bad_name : {offset : ℕ} {before : List Entry} {bytes rest : List ℕ} (e : Entry) → IsFront e bytes rest → (IsItemName e.name → ⊥) → ReadsFrom g offset before bytes (BadName (length before))
  name_twice : {offset : ℕ} {before : List Entry} {bytes rest : List ℕ} (e : Entry) → IsFront e bytes rest → IsItemName e.name → IsIn e.name (names_of_entries before) → ReadsFrom g offset before bytes (NameTwice (length before))
  bad_label : {offset : ℕ} {before : List Entry} {bytes rest : List ℕ} (e : Entry) → IsFront e bytes rest → IsItemName e.name → (IsIn e.name (names_of_entries before) → ⊥) → (IsLabelBytes g e.label → ⊥) → ReadsFrom g offset before bytes (BadLabel (length before))
  whole : {offset : ℕ} {before : List Entry} {bytes rest : List ℕ} {a : Answer} (e : Entry) → IsFront e bytes rest → IsItemName e.name → (IsIn e.name (names_of_entries before) → ⊥) → IsLabelBytes g e.label →
      ReadsFrom g (offset + length (entry_bytes e)) (before ++ e ∷ []) rest a → ReadsFrom g offset before bytes a

-- bytes are read as a label file of a grammar with one of these digests: first the head, which has 36 bytes, and then the entries
pub data Opens (g : Grammar) (digests : List (List ℕ)) (bytes : List ℕ) : Answer → Type 0 where
  short : length bytes < 36 → Opens g digests bytes NotLabels
  other_start : ((rest : List ℕ) → bytes ≡ codes "WFL1" ++ rest → ⊥) → Opens g digests bytes NotLabels
  other_digest : (found rest : List ℕ) → length found ≡ 32 → bytes ≡ head_bytes found ++ rest → (IsIn found digests → ⊥) → Opens g digests bytes OtherSpec
  head : {a : Answer} (found rest : List ℕ) → IsIn found digests → length found ≡ 32 → bytes ≡ head_bytes found ++ rest → ReadsFrom g 36 [] rest a → Opens g digests bytes a
