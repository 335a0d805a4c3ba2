use Rattle.std.proofs.Common.{drop}
use Rattle.decode_model.specs.Legs.{way_up}
use Rattle.decode_model.specs.Rows.{Progress}
use Rattle.wf_vlabel.specs.Seen.{matrices_of}
use Rattle.wf_decode.specs.HeldLegs.{legs_of}
use Rattle.wf_decode.proofs.rows.up.Given as goal

abbrev pub invariant-loop-i : goal.invariant-loop-i
invariant-loop-i g l = Progress (way_up (matrices_of l.vl) (legs_of l.vl (drop l.i l.legs))) l.fn.row l.row l.fn.steps l.steps
