use Rattle.std.proofs.Common.{rules, ◌≡◌, ◌+◌, ◌-◌, ◌*◌, ◌/◌, ◌%◌, ◌^◌, ◌<◌, slice_index_or, slice_set, arith, sym, subst}
use Rattle.std.proofs.lemmas.Nat.{shl_whole}
use Rattle.bit_pack.specs.Bits.{low_bits}
use Rattle.bit_pack.specs.Written.{Writes}
use Rattle.bit_pack.proofs.Filling.{part_written, raised_fits}
use Rattle.bit_pack.proofs.put.put_part.Goals as goal

pub overflow_add-bytes : goal.overflow_add-bytes
overflow_add-bytes c =
    let x = slice_index_or c.args.bytes.now (c.args.at / 8) 0 in
    let k = 8 - c.args.at % 8 - c.args.count in
    let small : x < 256 = search rules in
    let whole : c.args.part * 2 ^ k % 2 ^ 8 ≡ c.args.part * 2 ^ k = shl_whole c.args.part c.args.count k 8 c.requires.fits (omega arith) in
    let fits : x + c.args.part * 2 ^ k % 256 < 256 = subst (λ z. x + z < 256) (sym whole) (raised_fits c.args.bytes.now c.args.at c.args.count c.args.part c.requires.free c.requires.one_byte c.requires.inside c.requires.fits small) in
    search (rules, fits)

pub returns : goal.returns
returns c =
    let x = slice_index_or c.args.bytes.now (c.args.at / 8) 0 in
    let k = 8 - c.args.at % 8 - c.args.count in
    let small : x < 256 = search rules in
    let whole : c.args.part * 2 ^ k % 2 ^ 8 ≡ c.args.part * 2 ^ k = shl_whole c.args.part c.args.count k 8 c.requires.fits (omega arith) in
    subst (λ z. Writes c.args.bytes.now (slice_set c.args.bytes.now (c.args.at / 8) (x + z)) c.args.at (low_bits c.args.count c.args.part)) (sym whole)
    (part_written c.args.bytes.now c.args.at c.args.count c.args.part c.requires.free c.requires.one_byte c.requires.inside c.requires.fits small)
