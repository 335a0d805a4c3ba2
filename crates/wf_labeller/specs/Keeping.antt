-- What keeps entries, before and after.
use Rattle.std.specs.Prelude.{◌≡◌, List, ◌++◌, flat_map}
use Rattle.label_model.specs.Files.{Entry}

-- behind what was kept come the parts of these entries
abbrev pub Adds : {P : Type 0} → (Entry → List P) → List P → List P → List Entry → Type 0
Adds parts_of old new entries = new ≡ old ++ flat_map parts_of entries

-- behind what was kept come more parts, or none
abbrev pub HasMore : {P : Type 0} → List P → List P → Type 0
HasMore old new = (more : List _) × (new ≡ old ++ more)
