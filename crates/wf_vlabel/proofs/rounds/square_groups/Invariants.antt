use Rattle.std.proofs.Common.{◌≡◌, length}
use Rattle.wf_model.specs.Meaning.{pairs_of}
use Rattle.wf_vlabel.specs.RoundSteps.{numbers_in}
use Rattle.wf_vlabel.proofs.SquareGroups.{HaveRoundsBelow}
use Rattle.wf_vlabel.proofs.rounds.square_groups.Given as goal

abbrev pub invariant-loop-c : goal.invariant-loop-c
invariant-loop-c l = (length l.first.items ≡ length l.s.linear.grammar.now.core.modules) × HaveRoundsBelow l.s.linear.grammar.now.core l.s.linear.cycles.now l.s.view.now.core (pairs_of l.full) l.c l.squares (numbers_in l.first.items)
