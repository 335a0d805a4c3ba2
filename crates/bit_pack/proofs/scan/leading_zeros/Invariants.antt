use Rattle.std.proofs.Common.{◌≡◌, ◌*◌, take, replicate, false}
use Rattle.bit_pack.specs.Bits.{bits_of}
use Rattle.bit_pack.proofs.scan.leading_zeros.Given as goal

abbrev pub invariant-loop-byte : goal.invariant-loop-byte
invariant-loop-byte l = record { count : l.zeros ≡ 8 * l.byte-index; zeros : bits_of (take l.byte-index l.bytes) ≡ replicate (8 * l.byte-index) false }
