use Rattle.wf_spec.specs.Pairs.{pair_in}
use Rattle.wf_spec.specs.GivenRows.{pair_of}
use Rattle.wf_spec.proofs.Listing.{made_more, read_in}
use Rattle.wf_form.proofs.assemble.pairs.pairs_from.Goals as goal

pub pair_from-requires-clause-input : goal.pair_from-requires-clause-input
pair_from-requires-clause-input c = (c.requires.known c.part-item.result (read_in c.args.parts.now c.loop-part.part-index c.part-item.result c.part-item.is c.loop-part-test.true)).0

pub pair_from-requires-clause-output : goal.pair_from-requires-clause-output
pair_from-requires-clause-output c = (c.requires.known c.part-item.result (read_in c.args.parts.now c.loop-part.part-index c.part-item.result c.part-item.is c.loop-part-test.true)).1

pub loop-part-preserved : goal.loop-part-preserved
loop-part-preserved c =
    made_more pair_of (pair_in c.args.m.now) c.loop-part.pairs.items c.push.new.self.items c.pair_from.result c.args.parts.now c.loop-part.part-index c.part-item.result
    c.loop-part.invariant c.pair_from.ensures c.part-item.is c.loop-part-test.true c.in_ok-push.ensures.items
