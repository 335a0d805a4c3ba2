use Rattle.wf_safe.specs.Settling.{AreRowsByChoice, unset}
use Rattle.wf_safe.specs.Witness.{chosen_in}
use Rattle.wf_safe.proofs.check.settle.settled_rows.Given as goal

abbrev pub invariant-loop-rows : goal.invariant-loop-rows
invariant-loop-rows l = AreRowsByChoice l.v.grammar.now.core l.v.view.now.core (chosen_in l.choice) l.rows

abbrev pub decreases-loop-rows : goal.decreases-loop-rows
decreases-loop-rows l = unset l.rows
