use Rattle.wf_check.specs.Ranks.{IsRound, IsMoreRanked}
use Rattle.wf_check.proofs.ranks.round.Given as goal

abbrev pub invariant-loop-m : goal.invariant-loop-m
invariant-loop-m l = record {
  round : IsRound l.g.core l.n l.m l.ranks;
  more : IsMoreRanked l.initial.ranks l.some l.ranks;
}
