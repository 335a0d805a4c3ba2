use Rattle.std.proofs.Common.{◌≡◌, ℕ, ◌<◌}
use Rattle.wf_model.specs.Lists.{IsIn}
use Rattle.label_file.specs.Keys.{numbers}
use Rattle.label_file.specs.Hashed.{HasNone, turned}
use Rattle.label_file.proofs.table.put.Given as goal

abbrev pub invariant-loop-turn : goal.invariant-loop-turn
invariant-loop-turn l = (l.entries.keys ≡ l.initial.entries.keys) × ((t : ℕ) → t < l.turn → HasNone l.bytes l.initial.entries.keys l.name.bytes.now (turned l.name.hash t)) ×
    ((t : ℕ) → t < l.turn → IsIn (turned l.name.hash t) (numbers l.initial.entries.keys))
