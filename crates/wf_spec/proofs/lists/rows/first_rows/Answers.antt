use Rattle.wf_spec.proofs.Listing.{read_in}
use Rattle.wf_spec.proofs.GivenRows.{first_more}
use Rattle.wf_spec.proofs.lists.rows.first_rows.Goals as goal

pub alike-requires : goal.alike-requires
alike-requires c = (c.requires.few_ports c.index-modules-k.result (read_in c.args.modules.now c.loop-k.k c.index-modules-k.result c.index-modules-k.is c.loop-k-test.true)).outputs

pub loop-k-preserved : goal.loop-k-preserved
loop-k-preserved c =
    first_more c.args.modules.now c.args.named.now c.loop-k.k c.index-modules-k.result c.in_ok-rows.rows c.loop-k.table.items c.push.new.self.items c.loop-k.invariant c.index-modules-k.is
    c.loop-k-test.true c.in_ok-rows.ensures c.in_ok-push.ensures.items
