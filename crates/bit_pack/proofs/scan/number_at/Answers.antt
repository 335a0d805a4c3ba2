use Rattle.std.proofs.Common.{◌+◌, ◌-◌, ◌≤◌, length, arith, rules}
use Rattle.bit_pack.specs.Bits.{bits_of}
use Rattle.bit_pack.proofs.Packing.{length-bits_of}
use Rattle.bit_pack.proofs.Parts.{part_added, part_fits}
use Rattle.bit_pack.proofs.scan.number_at.Goals as goal

pub overflow_add-number : goal.overflow_add-number
overflow_add-number c =
    let inside : c.loop-at.at + c.min-taken.result ≤ length (bits_of c.args.bytes.now) = omega (arith, length-bits_of c.args.bytes.now) in
    let few : c.loop-at.at + c.min-taken.result - c.args.from ≤ 64 = omega arith in
    let fits = part_fits (bits_of c.args.bytes.now) c.args.from c.loop-at.at c.min-taken.result c.loop-at.number c.part_at-part.result c.loop-at.invariant.order inside few c.loop-at.invariant.told c.part_at-part.ensures in
    search (rules, fits)

pub loop-at-preserved : goal.loop-at-preserved
loop-at-preserved c =
    let inside : c.loop-at.at + c.min-taken.result ≤ length (bits_of c.args.bytes.now) = omega (arith, length-bits_of c.args.bytes.now) in
    let few : c.loop-at.at + c.min-taken.result - c.args.from ≤ 64 = omega arith in
    record {
      order = omega arith;
      within = omega arith;
      told = part_added (bits_of c.args.bytes.now) c.args.from c.loop-at.at c.min-taken.result c.loop-at.number c.part_at-part.result c.loop-at.invariant.order inside few c.loop-at.invariant.told c.part_at-part.ensures;
    }
