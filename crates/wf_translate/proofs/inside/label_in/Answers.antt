use Rattle.std.proofs.Common.{◌∙◌, sym, subst, arith}
use Rattle.bit_pack.specs.Bits.{AreBytes}
use Rattle.bit_pack.proofs.Packing.{packed_law}
use Rattle.wf_translate.proofs.HeldBits.{holds_whole, holds_first}
use Rattle.wf_translate.proofs.inside.label_in.Goals as goal

pub new-requires : goal.new-requires
new-requires c =
    let bytes = c.bytes.result.now in
    let are = subst AreBytes (sym c.bytes.ensures.packed) (packed_law c.args.bits.now).bytes in
    holds_whole c.args.bits.now bytes c.length.result c.bytes.ensures.holds are c.length.ensures (omega arith)

pub returns : goal.returns
returns c = c.new.ensures ∙ holds_first c.args.bits.now c.bytes.result.now c.length.result c.bytes.ensures.holds c.length.ensures
