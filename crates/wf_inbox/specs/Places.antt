-- What contracts see of the places of reports that are ready.
use Rattle.std.specs.Prelude.{◌≡◌, ℕ, ◌<◌, List, length, get_or}

-- the places, in no order, and how many more there is room for
pub record PlacesSeen : Type 0 where
  pub places : List ℕ
  pub spare : ℕ

-- a place is the first in the list
abbrev pub IsFirst : List ℕ → ℕ → Type 0
IsFirst places p = (0 < length places) × (p ≡ get_or places 0 p)
