use Rattle.std.proofs.Common.{◌≡◌, ◌-◌, length}
use Rattle.wf_chain.specs.ItemGraphs.{led_on}
use Rattle.wf_chain.proofs.item_graph.ItemGraph.next_led.Given as goal

abbrev pub invariant-loop-output : goal.invariant-loop-output
invariant-loop-output l = led_on l.self.run.now l.self.produced.now l.input l.mark ≡ led_on l.self.run.now l.self.produced.now l.input l.at

abbrev pub decreases-loop-output : goal.decreases-loop-output
decreases-loop-output l = length l.self.produced.now - l.at
