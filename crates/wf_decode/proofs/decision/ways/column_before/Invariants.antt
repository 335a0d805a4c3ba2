use Rattle.std.proofs.Common.{◌≡◌, ◌+◌, ◌*◌, length}
use Rattle.decode_model.specs.Legs.{leg_down}
use Rattle.wf_vlabel.specs.Seen.{matrices_of}
use Rattle.wf_decode.specs.HeldLegs.{leg_of}
use Rattle.wf_decode.specs.HeldWays.{IsColumnBefore}
use Rattle.wf_decode.proofs.decision.ways.column_before.Given as goal

abbrev pub invariant-loop-i : goal.invariant-loop-i
invariant-loop-i g l = record {
  column : IsColumnBefore (leg_down (matrices_of l.vl) (leg_of l.vl l.leg)) l.column l.i l.before;
  counted : l.steps ≡ l.fn.steps + l.i * length (leg_down (matrices_of l.vl) (leg_of l.vl l.leg));
}
