-- The draws of the program are those of the definitions.
use Rattle.std.proofs.Common.{◌≡◌, ℕ, ap}
use Rattle.rand_core.specs.Pcg32Seed.{pcg32_seed}
use Rattle.rand_pcg.specs.Lcg.{Lcg}
use Rattle.rand_pcg.specs.Pcg.{pcg32, pcg32_of_seed}
use Rattle.wf_gen.specs.Draws.{seeded, draw, drawn}

pub is_draw : (r s : Lcg) (w : ℕ) → ◌≡◌ {A = ℕ × Lcg} (w, s) (pcg32 r) → w ≡ draw r
unfolding draw
is_draw r s w e = ap (λ (p : ℕ × Lcg). p.0) e

pub is_drawn : (r s : Lcg) (w : ℕ) → ◌≡◌ {A = ℕ × Lcg} (w, s) (pcg32 r) → s ≡ drawn r
unfolding drawn
is_drawn r s w e = ap (λ (p : ℕ × Lcg). p.1) e

pub is_seeded : (r : Lcg) (seed : ℕ) → r ≡ pcg32_of_seed (pcg32_seed 16 seed) → r ≡ seeded seed
unfolding seeded
is_seeded r seed e = e
