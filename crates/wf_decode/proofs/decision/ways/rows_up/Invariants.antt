use Rattle.wf_decode.proofs.HeldWays.{AreRowsFrom}
use Rattle.wf_decode.proofs.decision.ways.rows_up.Given as goal

abbrev pub invariant-loop-i : goal.invariant-loop-i
invariant-loop-i g l = AreRowsFrom l.vl l.legs l.fn.from.module.0 l.fn.from.port.0 l.i l.rows.items l.fn.steps l.steps
