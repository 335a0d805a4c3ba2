-- What a store of the entries of a label file holds, and what its faults tell of the bytes.
use Rattle.std.specs.Prelude.{◌≡◌, ℕ, Bool, List, [], ◌∷◌, map}
use Rattle.wf_model.specs.Lists.{IsIn, AllDiffer}
use Rattle.wf_model.specs.Grammar.{Grammar}
use Rattle.bit_pack.specs.Bits.{Holds}
use Rattle.label_model.specs.Files.{Entry, Opens, Accepted, NotLabels, OtherSpec, Truncated, BadName, NameTwice, BadLabel}
use Rattle.wf_label.specs.Values.{AreLabelBits}
use Rattle.label_file.specs.declared.fault.StoreFault.{StoreFault}
use Rattle.label_file.specs.declared.fault.StoreFault.TheVariants.{NotLabels as IsNoLabels, OtherSpec as IsOfOther, Truncated as IsTruncated, BadName as HasBadName, NameTwice as HasNameTwice, BadLabel as HasBadLabel, NoMemory as HasNoMemory}

-- an entry as it is held: a name, and the bits of a label
pub record EntryHeld : Type 0 where
  pub name : List ℕ
  pub bits : List Bool

-- the names that are held, in order
abbrev pub names_held : List EntryHeld → List (List ℕ)
names_held hs = map (λ (h : EntryHeld). h.name) hs

-- past the end there is an entry without a name
abbrev pub no_entry : EntryHeld
no_entry = record { name = []; bits = [] }

-- what is held of an entry: its name, and the bits of the label of the grammar that its bytes are
pub record IsHeldOf (g : Grammar) (e : Entry) (h : EntryHeld) : Type 0 where
  pub name : h.name ≡ e.name
  pub label : AreLabelBits g h.bits
  pub bytes : Holds e.label h.bits

-- what is held of entries, in order
abbrev pub AreHeldOf : Grammar → List Entry → List EntryHeld → Type 0
AreHeldOf g [] [] = Unit {0}
AreHeldOf g [] (h ∷ hs) = ⊥
AreHeldOf g (e ∷ es) [] = ⊥
AreHeldOf g (e ∷ es) (h ∷ hs) = IsHeldOf g e h × AreHeldOf g es hs

-- what a store of the grammar holds: names that differ, and bits of labels of the grammar
pub record IsStoreFor (g : Grammar) (hs : List EntryHeld) : Type 0 where
  pub labels : (h : EntryHeld) → IsIn h hs → AreLabelBits g h.bits
  pub differ : AllDiffer (names_held hs)

-- bytes are a label file of the grammar with one of these digests, and its entries are held
pub record IsStoreOf (g : Grammar) (digests : List (List ℕ)) (bytes : List ℕ) (hs : List EntryHeld) : Type 0 where
  pub entries : List Entry
  pub read : Opens g digests bytes (Accepted entries)
  pub held : AreHeldOf g entries hs

-- what a fault tells of bytes: they are read as a label file with this fault first; want of memory tells nothing
abbrev pub IsStoreFault : Grammar → List (List ℕ) → List ℕ → StoreFault → Type 0
IsStoreFault g digests bytes IsNoLabels = Opens g digests bytes NotLabels
IsStoreFault g digests bytes IsOfOther = Opens g digests bytes OtherSpec
IsStoreFault g digests bytes (IsTruncated offset) = Opens g digests bytes (Truncated offset)
IsStoreFault g digests bytes (HasBadName entry) = Opens g digests bytes (BadName entry)
IsStoreFault g digests bytes (HasNameTwice entry) = Opens g digests bytes (NameTwice entry)
IsStoreFault g digests bytes (HasBadLabel entry) = Opens g digests bytes (BadLabel entry)
IsStoreFault g digests bytes HasNoMemory = Unit {0}
