use Rattle.std.proofs.Common.{◌≡◌, ◌<◌, ◌^◌, ◌++◌, take, flat_map, length}
use Rattle.wf_chain.specs.ItemLists.{root_held, opened_held}
use Rattle.wf_chain.proofs.items.count_of.Given as goal

abbrev pub invariant-loop-opened : goal.invariant-loop-opened
invariant-loop-opened l = (l.count ≡ length (root_held l.g.core l.run ++ flat_map (opened_held l.g.core) (take l.opened-index l.run.order))) × (l.count < 2 ^ 32)
