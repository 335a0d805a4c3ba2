-- The numbers of the entries of loops: those of the steps of grammars are small.
use Rattle.std.specs.Prelude.{◌≡◌, ℕ, ◌<◌, ◌^◌, List, Option, MatchOption}
use Rattle.wf_model.specs.Lists.{IsIn}
use Rattle.wf_model.specs.Reach.{Step}
use Rattle.package_model.specs.Packages.{LoopEntry}
use Rattle.package_file.specs.declared.parts.LoopPart.{LoopPart}
use Rattle.package_file.specs.Packed.{said_step, said_entries}

-- the numbers of a step are as small as those of the steps of grammars
pub record HasSmallNumbers (s : Step) : Type 0 where
  pub production : s.production < 2 ^ 16
  pub position : s.position < 2 ^ 8

-- one of the entries has a number that no step of a grammar has
abbrev pub HaveLargeNumber : List LoopPart → Type 0
HaveLargeNumber loops = (p : LoopPart) × IsIn p loops × (HasSmallNumbers (said_step p) → ⊥)

-- entries, if their numbers are small
abbrev pub AreNumbered : List LoopPart → Option (List LoopEntry) → Type 0
AreNumbered loops found = MatchOption found (HaveLargeNumber loops) (λ entries. entries ≡ said_entries loops)
