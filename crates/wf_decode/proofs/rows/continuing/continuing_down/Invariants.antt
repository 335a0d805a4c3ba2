use Rattle.std.proofs.Common.{map, take}
use Rattle.decode_model.specs.Legs.{leg_steps}
use Rattle.decode_model.specs.Rows.{Progress}
use Rattle.wf_vlabel.specs.Seen.{matrices_of}
use Rattle.wf_decode.specs.HeldLegs.{chain_from}
use Rattle.wf_decode.proofs.rows.continuing.continuing_down.Given as goal

abbrev pub invariant-loop-i : goal.invariant-loop-i
invariant-loop-i g l = Progress (map (matrices_of l.vl).into (take l.i (leg_steps (chain_from l.vl.cycles l.cycle.0 l.place l.count)))) l.fn.row l.row l.fn.steps l.steps
