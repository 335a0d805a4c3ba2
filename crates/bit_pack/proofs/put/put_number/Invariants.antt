use Rattle.std.proofs.Common.{◌≡◌, ◌+◌, ◌-◌, ◌/◌, ◌^◌, ◌≤◌}
use Rattle.bit_pack.specs.Bits.{low_bits}
use Rattle.bit_pack.specs.Written.{Writes}
use Rattle.bit_pack.proofs.put.put_number.Given as goal

abbrev pub invariant-loop-left : goal.invariant-loop-left
invariant-loop-left l = record {
  few : l.left ≤ l.count;
  place : l.at + l.left ≡ l.from + l.count;
  done : Writes l.initial.bytes l.bytes l.from (low_bits (l.count - l.left) (l.number / 2 ^ l.left));
}

abbrev pub decreases-loop-left : goal.decreases-loop-left
decreases-loop-left l = l.left
