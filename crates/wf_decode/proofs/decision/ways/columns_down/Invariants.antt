use Rattle.wf_decode.proofs.HeldWays.{AreColumnsFrom}
use Rattle.wf_decode.proofs.decision.ways.columns_down.Given as goal

abbrev pub invariant-loop-i : goal.invariant-loop-i
invariant-loop-i g l = AreColumnsFrom l.vl l.legs l.fn.to.module.0 l.fn.to.port.0 l.i l.columns.items l.fn.steps l.steps
