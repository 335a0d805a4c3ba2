use Rattle.std.proofs.Common.{refl}
use Rattle.cmd_make.proofs.LabelsHeld.{next_within, next_first, next_second}
use Rattle.cmd_make.proofs.held.labels_of.Goals as goal

pub add_label-requires : goal.add_label-requires
add_label-requires c = (next_within c.args.pairs.now c.loop-i.i _ c.loop-i-test.true _ c.requires).0

pub add_label-requires-in-loop-i : goal.add_label-requires-in-loop-i
add_label-requires-in-loop-i c = (next_within c.args.pairs.now c.loop-i.i _ c.loop-i-test.true _ c.requires).1

pub loop-i-preserved : goal.loop-i-preserved
loop-i-preserved c = record {
  firsts = next_first c.args.pairs.now c.loop-i.i _ c.loop-i-test.true c.args.run.now.labels c.loop-i.firsts c.add_label.new.to _ c.loop-i.invariant.firsts c.in_ok-add_label.ensures refl;
  seconds = next_second c.args.pairs.now c.loop-i.i _ c.loop-i-test.true c.args.run.now.labels c.loop-i.seconds c.add_label-in-loop-i.new.to _ c.loop-i.invariant.seconds c.in_ok-add_label-2.ensures refl;
}
