use Rattle.std.proofs.Common.{◌≡◌, ◌++◌, map}
use Rattle.wf_model.specs.Lists.{numbers_from}
use Rattle.wf_chain.specs.ItemLists.{input_held}
use Rattle.wf_chain.proofs.items.add_inputs.Given as goal

abbrev pub invariant-loop-k : goal.invariant-loop-k
invariant-loop-k l = l.items.items ≡ l.initial.items.items ++ map input_held (numbers_from 0 l.k)
