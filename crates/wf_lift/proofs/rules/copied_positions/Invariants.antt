use Rattle.std.proofs.Common.{◌≡◌, map, take}
use Rattle.wf_model.specs.Meaning.{position_of}
use Rattle.wf_lift.proofs.rules.copied_positions.Given as goal

-- the positions so far
abbrev pub invariant-loop-one : goal.invariant-loop-one
invariant-loop-one l = map position_of l.list.items ≡ map position_of (take l.one-index l.positions)
