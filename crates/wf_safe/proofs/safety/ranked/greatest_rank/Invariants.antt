use Rattle.std.proofs.Common.{ℕ, ◌<◌, ◌≤◌}
use Rattle.wf_safe.specs.Inducing.{rank_of}
use Rattle.wf_safe.proofs.safety.ranked.greatest_rank.Given as goal

-- the modules so far
abbrev pub invariant-loop-m : goal.invariant-loop-m
invariant-loop-m l = (k : ℕ) → k < l.m → rank_of l.proper k ≤ l.greatest
