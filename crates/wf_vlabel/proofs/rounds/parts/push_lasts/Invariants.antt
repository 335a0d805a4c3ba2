use Rattle.std.proofs.Common.{length}
use Rattle.wf_recur.specs.Cycles.{round_at, least_of}
use Rattle.wf_vlabel.proofs.Parts.{LastsSoFar}
use Rattle.wf_vlabel.proofs.rounds.parts.push_lasts.Given as goal

abbrev pub invariant-loop-place : goal.invariant-loop-place
invariant-loop-place l = LastsSoFar l.way l.g.grammar.now.core l.bodies (least_of (round_at l.g.cycles.now l.c.0)) (length (round_at l.g.cycles.now l.c.0)) l.fn.pool l.pool l.first.0 l.last.0 l.place

abbrev pub decreases-loop-place : goal.decreases-loop-place
decreases-loop-place l = l.place
