use Rattle.wf_recur.specs.Cycles.{round_at, least_of}
use Rattle.wf_vlabel.proofs.Parts.{FirstsSoFar}
use Rattle.wf_vlabel.proofs.rounds.parts.push_firsts.Given as goal

abbrev pub invariant-loop-place : goal.invariant-loop-place
invariant-loop-place l = FirstsSoFar l.way l.g.grammar.now.core l.bodies (least_of (round_at l.g.cycles.now l.c.0)) l.fn.pool l.pool l.first.0 l.last.0 l.place
