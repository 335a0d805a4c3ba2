-- What a value is as a whole, or the first member that has not its form; and what a reader says of it.
use Rattle.std.specs.Prelude.{◌≡◌, ℕ, List, Option, Some, None}
use Rattle.std.specs.declared.result.Result.{Result}
use Rattle.std.specs.declared.result.Result.TheVariants.{Ok, Err}
use Rattle.serde_json.specs.Data.{Data}
use Rattle.wf_json.specs.declared.fault.JsonFault.{JsonFault}
use Rattle.wf_json.specs.declared.fault.JsonFault.TheVariants.{NotJson, WrongShape, NoMemory}
use Rattle.wf_json.specs.declared.fault.Member.{Member}
use Rattle.wf_json.specs.Reading.{IsReading, HasNoReading}

-- a member that has not its form is told, and else what it says is used
abbrev pub require : {A B : Type 0} → Member → Option A → (A → Result B Member) → Result B Member
require m None next = Err m
require m (Some x) next = next x

-- what a refusal says of the bytes, where values are told in this way
abbrev pub IsRefusalBy : {A : Type 0} → (Data → Result A Member) → List ℕ → JsonFault → Type 0
IsRefusalBy tell bytes NotJson = HasNoReading bytes
IsRefusalBy tell bytes (WrongShape m) = (d : Data) × IsReading bytes d × (tell d ≡ Err m)
IsRefusalBy tell bytes NoMemory = Unit {0}

-- a result says what is told of the value; want of memory says nothing
abbrev pub IsSaidBy : {A : Type 0} → (Data → Result A Member) → Data → Result A JsonFault → Type 0
IsSaidBy tell d (Ok x) = tell d ≡ Ok x
IsSaidBy tell d (Err NotJson) = ⊥
IsSaidBy tell d (Err (WrongShape m)) = tell d ≡ Err m
IsSaidBy tell d (Err NoMemory) = Unit {0}
