use Rattle.std.proofs.Common.{drop}
use Rattle.decode_model.specs.Legs.{each_up, leg_steps}
use Rattle.decode_model.specs.Rows.{Progress}
use Rattle.wf_vlabel.specs.Seen.{matrices_of}
use Rattle.wf_decode.specs.HeldLegs.{chain_from}
use Rattle.wf_decode.proofs.rows.continuing.continuing_up.Given as goal

abbrev pub invariant-loop-i : goal.invariant-loop-i
invariant-loop-i g l = Progress (each_up (matrices_of l.vl) (drop l.i (leg_steps (chain_from l.vl.cycles l.cycle.0 l.place l.count)))) l.fn.row l.row l.fn.steps l.steps
