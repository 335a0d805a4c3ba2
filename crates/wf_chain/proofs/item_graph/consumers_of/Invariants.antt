use Rattle.wf_chain.specs.ItemGraphs.{IsConsumerOf, AreEach}
use Rattle.wf_chain.proofs.item_graph.consumers_of.Given as goal

abbrev pub invariant-loop-item : goal.invariant-loop-item
invariant-loop-item l = AreEach (IsConsumerOf l.run) l.items l.item-index l.ports.items
