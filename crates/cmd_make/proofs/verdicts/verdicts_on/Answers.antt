use Rattle.std.proofs.Common.{◌≤◌, arith, sym, subst}
use Rattle.wf_decode.specs.Reading.{most_legs}
use Rattle.cmd_make.proofs.LabelsHeld.{count_pairs}
use Rattle.cmd_make.proofs.PairVerdicts.{next_verdict, all_verdicts}
use Rattle.cmd_make.proofs.verdicts.verdicts_on.Goals as goal

pub loop-i-preserved : goal.loop-i-preserved
loop-i-preserved g c = record {
  room = subst (λ n. most_legs c.args.vl.now.grammar ≤ n) (sym c.verdict_on-verdict.ensures.room) c.loop-i.invariant.room;
  verdicts = λ u ls ps of held.
      next_verdict ps c.loop-i.i (omega (arith, c.loop-i-test.true, c.count-count.ensures, count_pairs c.args.vl.now.grammar ls ps c.args.labels.now held)) c.args.vl.now.grammar u ls _ _ c.verdict_on-verdict.result
      (c.loop-i.invariant.verdicts u ls ps of held) (c.verdict_on-verdict.ensures.verdict u ls ps of held) c.in_ok-push.ensures.items;
}

pub returns : goal.returns
returns g c u ls ps of held =
    all_verdicts ps c.loop-i.i (omega (arith, c.loop-i-test.false, c.count-count.ensures, count_pairs c.args.vl.now.grammar ls ps c.args.labels.now held)) c.args.vl.now.grammar u ls _ (c.loop-i.invariant.verdicts u ls ps of held)
