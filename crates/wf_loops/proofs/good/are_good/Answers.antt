use Rattle.std.proofs.Common.{below_more, refl, ap, length, arith}
use Rattle.wf_loops.specs.Looped.{loop_in}
use Rattle.wf_loops.specs.Tables.{steps_in}
use Rattle.wf_loops.specs.Good.{IsGoodAt}
use Rattle.wf_loops.proofs.good.are_good.Goals as goal

pub loop-k-preserved : goal.loop-k-preserved
loop-k-preserved c =
    below_more (IsGoodAt c.args.g.grammar.now.core (loop_in (steps_in c.args.steps.now))) c.loop-k.k c.loop-k.invariant (c.is_good_at.ensures.0 c.if-not-is_good_at.false)

pub returns : goal.returns
returns c = (
  (λ t m below. let count = ap length c.modules-k-end.ensures.modules in c.loop-k.invariant m (omega arith)),
  (λ good. refl),
)
