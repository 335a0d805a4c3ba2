use Rattle.std.proofs.Common.{take}
use Rattle.decode_model.specs.Legs.{way_down}
use Rattle.decode_model.specs.Rows.{Progress}
use Rattle.wf_vlabel.specs.Seen.{matrices_of}
use Rattle.wf_decode.specs.HeldLegs.{legs_of}
use Rattle.wf_decode.proofs.rows.down.Given as goal

abbrev pub invariant-loop-leg : goal.invariant-loop-leg
invariant-loop-leg g l = Progress (way_down (matrices_of l.vl) (legs_of l.vl (take l.leg-index l.legs))) l.fn.row l.row l.fn.steps l.steps
