use Rattle.std.proofs.Common.{ℕ, ◌<◌}
use Rattle.label_file.specs.Hashed.{HasNone, turned}
use Rattle.label_file.proofs.table.find.Given as goal

abbrev pub invariant-loop-turn : goal.invariant-loop-turn
invariant-loop-turn l = (t : ℕ) → t < l.turn → HasNone l.bytes l.entries.keys l.name.bytes.now (turned l.name.hash t)
