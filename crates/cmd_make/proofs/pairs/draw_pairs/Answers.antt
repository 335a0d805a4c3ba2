use Rattle.cmd_make.proofs.DrawnPairs.{one_drawn}
use Rattle.cmd_make.proofs.pairs.draw_pairs.Goals as goal

pub loop-preserved : goal.loop-preserved
loop-preserved c = record {
  ended = c.draw_pair-pair.ensures.ended;
  all = one_drawn c.args.count c.args.items c.loop.counter _ _ _ _ _ _ c.loop-test.true c.loop.invariant.all c.draw_pair-pair.ensures.pair c.draw_pair-pair.ensures.draws c.in_ok-push.ensures.items;
}
