use Rattle.std.proofs.Common.{◌≡◌, map, take}
use Rattle.wf_model.specs.Meaning.{position_of}
use Rattle.wf_package.specs.Parts.{made_by_place, position_part}
use Rattle.wf_package.proofs.productions.placed_positions.Given as goal

-- the positions so far
abbrev pub invariant-loop-k : goal.invariant-loop-k
invariant-loop-k l = map position_of l.list.items ≡ made_by_place (position_part l.places) 0 (take l.k l.positions)
