use Rattle.std.proofs.Common.{take}
use Rattle.wf_safe.specs.Settling.{AreTried, IsTable}
use Rattle.wf_safe.specs.Witness.{chosen_in}
use Rattle.wf_safe.proofs.check.settle.round.Given as goal

abbrev pub invariant-loop-c : goal.invariant-loop-c
invariant-loop-c l = record {
  table : IsTable l.g.core l.rows;
  tried : AreTried l.g.core (chosen_in l.choice) (chosen_in (take l.c-index l.choice)) l.initial.rows l.some l.rows;
}
