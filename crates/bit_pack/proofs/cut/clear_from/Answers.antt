use Rattle.std.proofs.Common.{rules, ◌/◌, ◌<◌, slice_index_or, slice_set, ap}
use Rattle.bit_pack.proofs.Cutting.{cleared_fits, cleared}
use Rattle.bit_pack.proofs.cut.clear_from.Goals as goal

pub returns-clause-bits : goal.returns-clause-bits
returns-clause-bits c =
    let small : slice_index_or c.args.bytes.now (c.args.at / 8) 0 < 256 = search rules in
    (cleared c.args.bytes.now c.args.at c.requires.within c.requires.last small _ (ap (slice_set c.args.bytes.now (c.args.at / 8)) (cleared_fits c.args.bytes.now c.args.at c.requires.within c.requires.last small))).0

pub returns-clause-filled : goal.returns-clause-filled
returns-clause-filled c =
    let small : slice_index_or c.args.bytes.now (c.args.at / 8) 0 < 256 = search rules in
    (cleared c.args.bytes.now c.args.at c.requires.within c.requires.last small _ (ap (slice_set c.args.bytes.now (c.args.at / 8)) (cleared_fits c.args.bytes.now c.args.at c.requires.within c.requires.last small))).1
