use Rattle.wf_chain.specs.ItemGraphs.{IsProducerOf, AreEach}
use Rattle.wf_chain.proofs.item_graph.producers_of.Given as goal

abbrev pub invariant-loop-item : goal.invariant-loop-item
invariant-loop-item l = AreEach (IsProducerOf l.run) l.items l.item-index l.ports.items
