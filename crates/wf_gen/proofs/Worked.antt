-- Worked runs are computed.
use Rattle.std.proofs.Common.{refl}
use Rattle.std.specs.Fmt.{digits}
use Rattle.rand_core.specs.Steps.{u32_at, word_bytes}
use Rattle.rand_core.specs.Pcg32Seed.{pcg32_seed}
use Rattle.label_model.specs.Continuing.{derives_within, derives, continuing}
use Rattle.wf_gen.specs.Draws.{seeded, draw, drawn}
use Rattle.wf_gen.specs.Examples.{RunsAreWorked}

pub runs_are_worked : RunsAreWorked
unfolding digits u32_at word_bytes pcg32_seed derives_within derives continuing seeded draw drawn
runs_are_worked = record { ended = refl; cut = refl }
