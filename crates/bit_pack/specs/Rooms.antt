-- Bits that are written into a room.
use Rattle.std.specs.Prelude.{ℕ, Bool, List}

-- the bits that are written, and how many there is room for
pub record BitsInRoom : Type 0 where
  pub bits : List Bool
  pub room : ℕ
