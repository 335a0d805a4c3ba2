use Rattle.wf_chain.specs.ItemLists.{output_held}
use Rattle.wf_flat.proofs.Numbered.{numbered_more}
use Rattle.wf_chain.proofs.items.add_outputs.Goals as goal

pub loop-k-preserved : goal.loop-k-preserved
loop-k-preserved c = numbered_more output_held c.loop-k.k c.args.items.now.items c.loop-k.items.items _ c.loop-k.invariant c.in_ok-push.ensures.items
