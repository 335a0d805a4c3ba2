use Rattle.std.proofs.Common.{◌<◌, arith}
use Rattle.std.proofs.lemmas.List.Elements.{All-from_get_or}
use Rattle.bit_pack.specs.Bits.{AreBytes}
use Rattle.bit_pack.specs.Written.{first_bits}
use Rattle.bit_pack.proofs.Packing.{packed_law}
use Rattle.bit_pack.proofs.Filling.{length-first_bits, filled_holds}
use Rattle.bit_pack.proofs.bits.packed_bytes.Goals as goal

pub returns-clause-packed : goal.returns-clause-packed
returns-clause-packed c =
    let are_bytes : AreBytes c.args.bytes.now = All-from_get_or (λ b. b < 256) c.args.bytes.now 0 (λ i h. let fits = c.type_inv.bytes i in omega arith) in
    (packed_law (first_bits c.args.bytes.now c.args.end)).only c.args.bytes.now are_bytes (filled_holds c.args.bytes.now c.args.end c.requires)

pub returns-clause-few : goal.returns-clause-few
returns-clause-few c = omega (arith, c.requires.few, length-first_bits c.args.bytes.now c.args.end c.requires.free.inside)
