use Rattle.wf_spec.proofs.FirstFaults.{read_at}
use Rattle.wf_form.proofs.checks.sizes.sum_of_squares.Goals as goal

pub square_of-sum-requires : goal.square_of-sum-requires
square_of-sum-requires c = c.requires.short c.loop-rule.rule-index c.loop-rule-test.true c.rule-item.result (read_at c.args.productions.now c.loop-rule.rule-index c.rule-item.result c.rule-item.is c.loop-rule-test.true)
