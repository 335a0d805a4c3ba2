use Rattle.std.proofs.Common.{◌≡◌, length}
use Rattle.wf_vlabel.specs.RoundSteps.{numbers_in}
use Rattle.wf_vlabel.proofs.SquaredCycle.{SquaredSoFar}
use Rattle.wf_vlabel.proofs.rounds.squares.square_cycle.Given as goal

abbrev pub invariant-loop-place : goal.invariant-loop-place
invariant-loop-place l =
    (length l.first ≡ length l.initial.first) ×
    SquaredSoFar l.g.grammar.now.core l.g.cycles.now l.bodies l.c.0 l.place l.initial.squares (numbers_in l.initial.first) l.down l.up l.squares (numbers_in l.first)
