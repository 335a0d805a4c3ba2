-- What is told of an entry that is to follow those that are held.
use Rattle.std.specs.Prelude.{◌≡◌, Bool, List, [], ◌∷◌, ◌++◌, length}
use Rattle.wf_model.specs.Lists.{IsIn}
use Rattle.wf_model.specs.Grammar.{Grammar}
use Rattle.wf_model.specs.Items.{IsItemName}
use Rattle.bit_pack.specs.Bits.{Holds}
use Rattle.label_model.specs.Files.{Entry}
use Rattle.label_model.specs.Reading.{IsLabelBytes}
use Rattle.wf_label.specs.Values.{AreLabelBits}
use Rattle.label_file.specs.Stored.{EntryHeld, names_held}
use Rattle.label_file.specs.declared.fault.StoreFault.{StoreFault}
use Rattle.label_file.specs.declared.fault.StoreFault.TheVariants.{NotLabels as IsNoLabels, OtherSpec as IsOfOther, Truncated as IsTruncated, BadName as HasBadName, NameTwice as HasNameTwice, BadLabel as HasBadLabel, NoMemory as HasNoMemory}

-- An entry with the name of an item, which is new, and a label of the grammar, is held behind the others
pub record IsAdded (g : Grammar) (old : List EntryHeld) (e : Entry) (new : List EntryHeld) : Type 0 where
  pub named : IsItemName e.name
  pub first : IsIn e.name (names_held old) → ⊥
  pub bits : List Bool
  pub label : AreLabelBits g bits
  pub bytes : Holds e.label bits
  pub is : new ≡ old ++ record { name = e.name; bits = bits } ∷ []

-- why an entry is not to follow those that are held: the first that is wrong with it, and its number
abbrev pub IsRefused : Grammar → List EntryHeld → Entry → StoreFault → Type 0
IsRefused g old e IsNoLabels = ⊥
IsRefused g old e IsOfOther = ⊥
IsRefused g old e (IsTruncated offset) = ⊥
IsRefused g old e (HasBadName entry) = (entry ≡ length old) × (IsItemName e.name → ⊥)
IsRefused g old e (HasNameTwice entry) = (entry ≡ length old) × IsItemName e.name × IsIn e.name (names_held old)
IsRefused g old e (HasBadLabel entry) = (entry ≡ length old) × IsItemName e.name × (IsIn e.name (names_held old) → ⊥) × (IsLabelBytes g e.label → ⊥)
IsRefused g old e HasNoMemory = Unit {0}
