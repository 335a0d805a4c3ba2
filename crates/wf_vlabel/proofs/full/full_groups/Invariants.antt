use Rattle.wf_vlabel.specs.Growing.{AreGroupsOf, IsRowsGroup}
use Rattle.wf_vlabel.proofs.full.full_groups.Given as goal
use Rattle.wf_vlabel.specs.RoundSteps.{numbers_in}

-- the groups of the modules so far
abbrev pub invariant-loop-m : goal.invariant-loop-m
invariant-loop-m l = AreGroupsOf (IsRowsGroup l.g.core l.full) l.m l.pool (numbers_in l.first.items)
