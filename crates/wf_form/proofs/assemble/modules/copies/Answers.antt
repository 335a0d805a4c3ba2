use Rattle.std.proofs.Common.{◌∙◌}
use Rattle.wf_form.proofs.Pushing.{copied_more}
use Rattle.wf_form.proofs.assemble.modules.copies.Goals as goal

pub loop-name-preserved : goal.loop-name-preserved
loop-name-preserved c =
    copied_more c.loop-name.list.items c.push.new.self.items c.in_ok-copy.copy c.args.names.now c.loop-name.name-index c.name-item.result
    c.loop-name.invariant (c.in_ok-copy.ensures ∙ c.bytes.ensures) c.name-item.is c.loop-name-test.true c.in_ok-push.ensures.items
