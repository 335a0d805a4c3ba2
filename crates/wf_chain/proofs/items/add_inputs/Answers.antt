use Rattle.wf_chain.specs.ItemLists.{input_held}
use Rattle.wf_flat.proofs.Numbered.{numbered_more}
use Rattle.wf_chain.proofs.items.add_inputs.Goals as goal

pub loop-k-preserved : goal.loop-k-preserved
loop-k-preserved c = numbered_more input_held c.loop-k.k c.args.items.now.items c.loop-k.items.items _ c.loop-k.invariant c.in_ok-push.ensures.items
