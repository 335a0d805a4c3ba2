use Rattle.std.proofs.Common.{take}
use Rattle.wf_safe.specs.Choosing.{AreProductions}
use Rattle.wf_safe.specs.Witness.{chosen_in}
use Rattle.wf_safe.proofs.check.choice.are_productions.Given as goal

abbrev pub invariant-loop-c : goal.invariant-loop-c
invariant-loop-c l = AreProductions l.g.core (chosen_in (take l.c-index l.choice))
