-- What is due, or was put, of the lines of the entries that are listed.
use Rattle.std.specs.Prelude.{◌≡◌, ◌⊎◌, ℕ, Bool, List, ◌++◌, Option, codes}
use Rattle.wf_model.specs.Grammar.{Grammar}
use Rattle.wf_model.specs.View.{View}
use Rattle.label_model.specs.Labels.{Label, IsLabel, label_bits}
use Rattle.label_model.specs.Files.{Entry}
use Rattle.verdict_model.specs.Verdicts.{IsHidden}
use Rattle.wf_lines.specs.Taking.{IsDue, IsCut}
use Rattle.label_file.specs.Stored.{EntryHeld, IsHeldOf, AreHeldOf}
use Rattle.wf_vlabel.specs.Seen.{ViewLabelSeen, IsLabelOfView}
use Rattle.wf_lineage.specs.declared.direction.Direction.{Direction}
use Rattle.wf_lineage.specs.declared.listing.Listing.{Listing}
use Rattle.wf_lineage.specs.declared.listing.Listing.TheVariants.{Hidden, Listed as IsToldListed}
use Rattle.wf_lineage.specs.Listed.{IsListed, AreListed, lines_of}

-- what is so of each view that a label of a view is of, of each entry that is held so, and of each label with these bits
abbrev pub OfEntry : ViewLabelSeen → EntryHeld → List Bool → (View → Entry → Label → Type 0) → Type 0
OfEntry l h bits P =
    (u : View) (e : Entry) (y : Label) → IsLabelOfView l u → IsHeldOf l.grammar e h → IsLabel l.grammar y → bits ≡ label_bits y → P u e y

-- so of the entries of a label file that a store holds
abbrev pub OfStore : ViewLabelSeen → List EntryHeld → List Bool → (View → List Entry → Label → Type 0) → Type 0
OfStore l hs bits P =
    (u : View) (entries : List Entry) (y : Label) → IsLabelOfView l u → AreHeldOf l.grammar entries hs → IsLabel l.grammar y → bits ≡ label_bits y → P u entries y

-- where an entry is listed, its line is due behind what was; otherwise what was due is due
abbrev pub IsLineDue : Type 0 → List ℕ → List ℕ → List ℕ → Option (List ℕ) → Option (List ℕ) → Type 0
IsLineDue Listed name due due' old new =
    (Listed × IsDue (due ++ (name ++ codes "\n")) due' old new) ⊎ ((Listed → ⊥) × IsDue due due' old new)

-- an entry is listed, and writing failed of what was due with its line behind it
abbrev pub IsLineCut : Type 0 → List ℕ → List ℕ → Option (List ℕ) → Option (List ℕ) → Type 0
IsLineCut Listed name due old new = Listed × IsCut (due ++ (name ++ codes "\n")) old new

-- the lines of the entries that are listed are due behind what was
abbrev pub AreLinesDue : (Entry → Type 0) → List Entry → List ℕ → List ℕ → Option (List ℕ) → Option (List ℕ) → Type 0
AreLinesDue Listed entries due due' old new = (names : List (List ℕ)) × AreListed Listed entries names × IsDue (due ++ lines_of names) due' old new

-- writing failed of what was due with the lines behind it of the entries that are listed
abbrev pub AreLinesCut : (Entry → Type 0) → List Entry → List ℕ → Option (List ℕ) → Option (List ℕ) → Type 0
AreLinesCut Listed entries due old new = (names : List (List ℕ)) → AreListed Listed entries names → IsCut (due ++ lines_of names) old new

-- what a listing tells of the item of a label: it is hidden, and nothing was done; or it is not, and the lines are due
abbrev pub IsListingDue : Grammar → View → Direction → List Entry → Label → Listing → List ℕ → List ℕ → Option (List ℕ) → Option (List ℕ) → Type 0
IsListingDue g u d entries y Hidden due due' old new = IsHidden g u y × (due' ≡ due) × (new ≡ old)
IsListingDue g u d entries y IsToldListed due due' old new = (IsHidden g u y → ⊥) × AreLinesDue (IsListed g u d y) entries due due' old new

-- the item of a label is not hidden, and writing failed of what was due with the lines behind it
abbrev pub IsListingCut : Grammar → View → Direction → List Entry → Label → List ℕ → Option (List ℕ) → Option (List ℕ) → Type 0
IsListingCut g u d entries y due old new = (IsHidden g u y → ⊥) × AreLinesCut (IsListed g u d y) entries due old new
