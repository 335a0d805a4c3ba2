use Rattle.std.proofs.Common.{◌≡◌, map, flat_map, take}
use Rattle.wf_model.specs.Meaning.{inner_of}
use Rattle.words_model.specs.Lifting.{inner_states}
use Rattle.wf_lift.proofs.ends.lift_inners.Given as goal

-- the ports so far
abbrev pub invariant-loop-one : goal.invariant-loop-one
invariant-loop-one l = map inner_of l.list.items ≡ flat_map (inner_states l.states) (map inner_of (take l.one-index l.ends))
