use Rattle.wf_form.proofs.Heads.{heads_more, heads_all}
use Rattle.wf_form.proofs.links.atomic.heads.Goals as goal

pub loop-rule-preserved : goal.loop-rule-preserved
loop-rule-preserved c =
    heads_more c.args.productions.now c.loop-rule.rule-index c.rule-item.result c.bytes.result.now c.loop-rule.names c.take.new.names c.loop-rule-test.true c.rule-item.is c.bytes.ensures
    c.loop-rule.invariant c.in_ok-take.ensures

pub returns : goal.returns
returns c = heads_all c.args.productions.now c.loop-rule.rule-index c.loop-rule.names c.loop-rule-test.false c.loop-rule.invariant
