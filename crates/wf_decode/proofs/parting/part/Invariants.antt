use Rattle.std.proofs.Common.{◌≡◌, ◌+◌, ◌-◌, length}
use Rattle.wf_decode.proofs.CommonSteps.{HaveCommon}
use Rattle.wf_decode.proofs.parting.part.Given as goal

abbrev pub invariant-loop-i : goal.invariant-loop-i
invariant-loop-i l = record {
  common : HaveCommon l.vl l.fn.first l.fn.second l.i l.j l.first l.second;
  first_length : length l.first ≡ length l.fn.first;
  second_length : length l.second ≡ length l.fn.second;
}

abbrev pub decreases-loop-i : goal.decreases-loop-i
decreases-loop-i l = (length l.fn.first - l.i) + (length l.fn.second - l.j)
