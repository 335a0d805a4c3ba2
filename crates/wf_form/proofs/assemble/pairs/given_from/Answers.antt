use Rattle.wf_form.specs.Forming.{given_in}
use Rattle.wf_form.proofs.Pushing.{gathered_more}
use Rattle.wf_spec.proofs.Listing.{read_in}
use Rattle.wf_form.proofs.assemble.pairs.given_from.Goals as goal

pub part_from-requires-clause-known : goal.part_from-requires-clause-known
part_from-requires-clause-known c = c.requires.known c.part-item.result (read_in c.args.parts.now c.loop-part.part-index c.part-item.result c.part-item.is c.loop-part-test.true)

pub part_from-requires-clause-pairs : goal.part_from-requires-clause-pairs
part_from-requires-clause-pairs c = c.requires.pairs c.part-item.result (read_in c.args.parts.now c.loop-part.part-index c.part-item.result c.part-item.is c.loop-part-test.true)

pub loop-part-preserved : goal.loop-part-preserved
loop-part-preserved c =
    gathered_more (given_in c.args.modules.now) c.loop-part.list.items c.push.new.self.items c.in_ok-given.given c.args.parts.now c.loop-part.part-index c.part-item.result
    c.loop-part.invariant c.in_ok-given.ensures c.part-item.is c.loop-part-test.true c.in_ok-push.ensures.items
