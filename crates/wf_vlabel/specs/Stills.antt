-- The first squares that are their own squares.
use Rattle.std.specs.Prelude.{◌≡◌, ℕ, ◌+◌, List, length, get_or}
use Rattle.decode_model.specs.Legs.{still}
use Rattle.wf_vlabel.specs.declared.rounds.stills.Stills.{Stills}
use Rattle.wf_vlabel.specs.Groups.{GroupsSeen, matrix_of, HasGroup}

-- these are their numbers, for the squares of a module: of those down from it, and of those up to it
pub record AreStillsAt (t : GroupsSeen) (m : ℕ) (s : Stills) : Type 0 where
  pub down : s.down ≡ still (λ k. matrix_of t m k)
  pub up : s.up ≡ still (λ k. matrix_of t m (24 + k))

-- so it is with each module that has squares
pub record AreStills (t : GroupsSeen) (stills : List Stills) : Type 0 where
  pub one_each : length stills ≡ length t.first
  pub each : (m : ℕ) → HasGroup t m 48 → AreStillsAt t m (get_or stills m (record { down = 0; up = 0 }))
