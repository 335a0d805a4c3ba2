use Rattle.std.proofs.Common.{◌≡◌, ◌<◌, ℕ, length, get_or, None}
use Rattle.wf_check.specs.Ranks.{TellsRankBelow}
use Rattle.wf_check.proofs.ranks.atomic_ranks.Given as goal

abbrev pub invariant-loop-m : goal.invariant-loop-m
invariant-loop-m l = record {
  count : length l.ranks.items ≡ l.m;
  told : (k : ℕ) → k < l.m → TellsRankBelow l.g.core 1 k (get_or l.ranks.items k None);
}
