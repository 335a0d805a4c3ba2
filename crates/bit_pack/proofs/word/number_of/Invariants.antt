use Rattle.std.proofs.Common.{◌≡◌, take}
use Rattle.bit_pack.specs.Bits.{number, bits_of}
use Rattle.bit_pack.proofs.word.number_of.Given as goal

abbrev pub invariant-loop-byte : goal.invariant-loop-byte
invariant-loop-byte l = l.number ≡ number (bits_of (take l.byte-index l.bytes))
