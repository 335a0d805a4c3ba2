use Rattle.std.proofs.Common.{get_or}
use Rattle.wf_chain.specs.ItemGraphs.{IsConsumerOf, no_item}
use Rattle.wf_chain.proofs.ReadLists.{read_in}
use Rattle.wf_chain.proofs.EachItem.{one_more, all_each}
use Rattle.wf_chain.proofs.item_graph.consumers_of.Goals as goal

pub consumer-requires : goal.consumer-requires
consumer-requires c = c.requires _ (read_in c.args.items.now c.args.items.now c.loop-item.item-index no_item Rattle.std.proofs.Common.refl c.loop-item-test.true)

pub loop-item-preserved : goal.loop-item-preserved
loop-item-preserved c = one_more (IsConsumerOf c.args.run.now) c.args.items.now c.loop-item.item-index c.loop-item.ports.items c.push.new.self.items c.consumer.result c.loop-item.invariant c.consumer.ensures c.in_ok-push.ensures.items

pub returns : goal.returns
returns c = all_each (IsConsumerOf c.args.run.now) c.args.items.now c.loop-item.item-index c.loop-item.ports.items c.loop-item.invariant c.loop-item.auto.item-index-end c.loop-item-test.false
