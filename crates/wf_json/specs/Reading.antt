-- The value of a JSON text.
use Rattle.std.specs.Prelude.{◌≡◌, ℕ, List, Some, None, IsUtf8}
use Rattle.serde_json.specs.Data.{Data}
use Rattle.serde_json.specs.Read.{read}
use Rattle.wf_json.specs.declared.reading.TextFault.{TextFault}
use Rattle.wf_json.specs.declared.reading.TextFault.TheVariants.{NotJson, NoMemory}

-- the bytes are UTF-8 and read as this value
abbrev pub IsReading : List ℕ → Data → Type 0
IsReading bytes d = IsUtf8 bytes × (read bytes ≡ Some d)

-- the bytes are not UTF-8, or read as no value
abbrev pub HasNoReading : List ℕ → Type 0
HasNoReading bytes = IsUtf8 bytes → read bytes ≡ None

-- what it says of the bytes that they give no value
abbrev pub IsUnread : List ℕ → TextFault → Type 0
IsUnread bytes NotJson = HasNoReading bytes
IsUnread bytes NoMemory = Unit {0}
