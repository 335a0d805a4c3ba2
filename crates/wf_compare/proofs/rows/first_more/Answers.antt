use Rattle.std.proofs.Common.{arith}
use Rattle.wf_compare.proofs.MoreBits.{row_passed, row_first, all_passed}
use Rattle.wf_compare.proofs.rows.first_more.Goals as goal

pub loop-i-init : goal.loop-i-init
loop-i-init c = λ k o l m. absurd (omega arith)

pub returns-then-more-ne0 : goal.returns-then-more-ne0
returns-then-more-ne0 c = row_first c.args.one.now c.args.other.now c.loop-i.i c.loop-i-test.true (c.type_inv.one c.loop-i.i).fits c.if-more-ne0.true c.loop-i.invariant

pub loop-i-preserved : goal.loop-i-preserved
loop-i-preserved c = row_passed c.args.one.now c.args.other.now c.loop-i.i (omega (arith, c.if-more-ne0.false)) c.loop-i.invariant

pub returns : goal.returns
returns c = all_passed c.args.one.now c.args.other.now c.loop-i.i (λ h. omega (arith, c.loop-i-test.false)) c.loop-i.invariant
