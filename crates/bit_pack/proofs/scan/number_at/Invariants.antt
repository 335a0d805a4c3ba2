use Rattle.std.proofs.Common.{◌≡◌, ◌-◌, ◌≤◌, take, drop}
use Rattle.bit_pack.specs.Bits.{number, bits_of}
use Rattle.bit_pack.proofs.scan.number_at.Given as goal

abbrev pub invariant-loop-at : goal.invariant-loop-at
invariant-loop-at l = record { order : l.from ≤ l.at; within : l.at ≤ l.end; told : l.number ≡ number (take (l.at - l.from) (drop l.from (bits_of l.bytes))) }

abbrev pub decreases-loop-at : goal.decreases-loop-at
decreases-loop-at l = l.end - l.at
