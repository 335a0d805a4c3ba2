use Rattle.wf_recur.specs.Rounds.{AreRoundsBelow, rounds_in, stands_in}
use Rattle.wf_recur.proofs.rounds.rounds.Given as goal

abbrev pub invariant-loop-m : goal.invariant-loop-m
invariant-loop-m l = AreRoundsBelow l.g.core l.m (rounds_in l.rounds.items) (stands_in l.on.items)
