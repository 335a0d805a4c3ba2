use Rattle.wf_safe.specs.Witness.{chosen_in}
use Rattle.wf_safe.proofs.Choosing.{AreChosenBelow}
use Rattle.wf_safe.proofs.safety.choices.choices.Given as goal

-- the modules so far
abbrev pub invariant-loop-k : goal.invariant-loop-k
invariant-loop-k l = AreChosenBelow l.v.grammar.now.core l.v.view.now.core l.proper l.k (chosen_in l.list.items)
