-- How a fault of a label file is told: its name, and behind it the place that it is about.
use Rattle.std.specs.Prelude.{ℕ, List, [], ◌++◌, Option, Some, None, codes, decimal}
use Rattle.label_file.specs.declared.fault.StoreSpot.{StoreSpot}
use Rattle.label_file.specs.declared.fault.StoreSpot.TheVariants.{Offset, Entry}
use Rattle.label_file.specs.declared.fault.StoreFault.{StoreFault}
use Rattle.label_file.specs.declared.fault.StoreFault.TheVariants.{NotLabels, OtherSpec, Truncated, BadName, NameTwice, BadLabel, NoMemory}

-- the name of a fault of a label file
abbrev pub store_name : StoreFault → List ℕ
store_name NotLabels = codes "NotLabels"
store_name OtherSpec = codes "OtherSpec"
store_name (Truncated offset) = codes "Truncated"
store_name (BadName entry) = codes "BadName"
store_name (NameTwice entry) = codes "NameTwice"
store_name (BadLabel entry) = codes "BadLabel"
store_name NoMemory = codes "NoMemory"

-- the place in the file that it is about
abbrev pub store_spot : StoreFault → Option StoreSpot
store_spot NotLabels = None
store_spot OtherSpec = None
store_spot (Truncated offset) = Some (Offset offset)
store_spot (BadName entry) = Some (Entry entry)
store_spot (NameTwice entry) = Some (Entry entry)
store_spot (BadLabel entry) = Some (Entry entry)
store_spot NoMemory = None

-- a place in a label file behind a space; nothing where there is none
abbrev pub behind_store_spot : Option StoreSpot → List ℕ
behind_store_spot None = []
behind_store_spot (Some (Offset offset)) = codes " offset " ++ decimal offset
behind_store_spot (Some (Entry entry)) = codes " entry " ++ decimal entry

-- why bytes are no label file of a grammar: the name of the fault, and behind it the offset or the number of the entry that it is about
abbrev pub store_text : StoreFault → List ℕ
store_text f = store_name f ++ behind_store_spot (store_spot f)
