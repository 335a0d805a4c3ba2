use Rattle.wf_form.specs.Forming.{module_of}
use Rattle.wf_form.proofs.Pushing.{gathered_more}
use Rattle.wf_form.proofs.assemble.modules.modules_from.Goals as goal

pub loop-part-preserved : goal.loop-part-preserved
loop-part-preserved c =
    gathered_more module_of c.loop-part.list.items c.push.new.self.items c.in_ok-made.made c.args.parts.now c.loop-part.part-index c.part-item.result
    c.loop-part.invariant c.in_ok-made.ensures c.part-item.is c.loop-part-test.true c.in_ok-push.ensures.items
