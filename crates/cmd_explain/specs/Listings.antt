-- What is written of the entries that are listed.
use Rattle.std.specs.Prelude.{◌≡◌, ℕ, List}
use Rattle.wf_model.specs.Grammar.{Grammar}
use Rattle.wf_model.specs.View.{View}
use Rattle.label_model.specs.Labels.{Label}
use Rattle.label_model.specs.Files.{Entry}
use Rattle.wf_message.specs.Endings.{End, Done}
use Rattle.wf_lineage.specs.declared.direction.Direction.{Direction}
use Rattle.wf_lineage.specs.Listed.{IsListing, IsListingText}

-- the text for the item of a label is written, and that is all
abbrev pub ListsLabel : Grammar → View → Direction → List Entry → Label → End → List ℕ → Type 0
ListsLabel g u d entries y ending text = (ending ≡ Done) × IsListing g u d entries y text

-- so for the item of a name
abbrev pub ListsItem : Grammar → View → Direction → List Entry → List ℕ → End → List ℕ → Type 0
ListsItem g u d entries item ending text = (ending ≡ Done) × IsListingText g u d entries item text
