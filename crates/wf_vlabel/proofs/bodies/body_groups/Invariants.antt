use Rattle.wf_model.specs.Meaning.{pairs_of}
use Rattle.wf_vlabel.specs.Growing.{AreGroupsOf, IsBodyGroup}
use Rattle.wf_vlabel.proofs.bodies.body_groups.Given as goal
use Rattle.wf_vlabel.specs.RoundSteps.{numbers_in}

-- the groups of the productions so far
abbrev pub invariant-loop-k : goal.invariant-loop-k
invariant-loop-k l = AreGroupsOf (IsBodyGroup l.s.linear.grammar.now.core l.s.view.now.core (pairs_of l.full)) l.k l.pool (numbers_in l.first.items)
