use Rattle.wf_spec.proofs.Listing.{read_in}
use Rattle.wf_view.proofs.Pairing.{pairs_more}
use Rattle.wf_view.proofs.assemble.rows.add_pairs.Goals as goal

pub add_pair-requires-clause-input : goal.add_pair-requires-clause-input
add_pair-requires-clause-input c = (c.requires.known c.pair-item.result (read_in c.args.pairs.now c.loop-pair.pair-index c.pair-item.result c.pair-item.is c.loop-pair-test.true)).0

pub add_pair-requires-clause-output : goal.add_pair-requires-clause-output
add_pair-requires-clause-output c = (c.requires.known c.pair-item.result (read_in c.args.pairs.now c.loop-pair.pair-index c.pair-item.result c.pair-item.is c.loop-pair-test.true)).1

pub loop-pair-preserved : goal.loop-pair-preserved
loop-pair-preserved c =
    pairs_more c.args.one.now c.args.pairs.now c.loop-pair.pair-index c.pair-item.result c.args.rows.now c.loop-pair.rows c.add_pair.new.rows c.pair-item.is c.loop-pair-test.true c.loop-pair.invariant c.add_pair.ensures.added
