use Rattle.std.proofs.Common.{◌<◌, arith}
use Rattle.wf_spec.proofs.Listing.{read_in}
use Rattle.wf_spec.proofs.lists.rows.are_named.Goals as goal

pub index_mut-requires : goal.index_mut-requires
index_mut-requires c =
    let below : c.part-item.result.module_no < c.args.modules =
    c.requires c.part-item.result (read_in c.args.given.now c.loop-part.part-index c.part-item.result c.part-item.is c.loop-part-test.true) in
    omega (arith, c.module.ensures, c.loop-part.invariant.one_each, c.loop-part.flags.ok.0)
