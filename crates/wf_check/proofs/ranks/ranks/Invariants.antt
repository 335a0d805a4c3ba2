use Rattle.std.proofs.Common.{◌<◌, ◌≤◌, ◌+◌, length}
use Rattle.wf_check.specs.Ranks.{AreRanksBelow, unranked}
use Rattle.wf_check.proofs.ranks.ranks.Given as goal

abbrev pub invariant-loop-n : goal.invariant-loop-n
invariant-loop-n l = record {
  below : AreRanksBelow l.g.core l.n l.ranks.items;
  positive : 0 < l.n;
  few : l.n + unranked l.ranks.items ≤ length l.g.core.modules + 1;
}

abbrev pub decreases-loop-n : goal.decreases-loop-n
decreases-loop-n l = unranked l.ranks.items
