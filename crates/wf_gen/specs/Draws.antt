-- Draws: the 32-bit words of a generator of random numbers, one after the other.
use Rattle.std.specs.Prelude.{ℕ}
use Rattle.rand_core.specs.Pcg32Seed.{pcg32_seed}
use Rattle.rand_pcg.specs.Lcg.{Lcg}
use Rattle.rand_pcg.specs.Pcg.{pcg32, pcg32_of_seed}

-- the generator that a number seeds
unfoldable pub seeded : ℕ → Lcg
seeded seed = pcg32_of_seed (pcg32_seed 16 seed)

-- the next draw of a generator
unfoldable pub draw : Lcg → ℕ
draw r = (pcg32 r).0

-- the generator after it
unfoldable pub drawn : Lcg → Lcg
drawn r = (pcg32 r).1
