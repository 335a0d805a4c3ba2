-- The two sides of a module.
use Rattle.std.specs.Prelude.{ℕ}
use Rattle.wf_model.specs.declared.numbers.Side.{Side}
use Rattle.wf_model.specs.declared.numbers.Side.TheVariants.{Input, Output}

-- the place of a side: inputs come before outputs
abbrev pub side_place : Side → ℕ
side_place Input = 0
side_place Output = 1
