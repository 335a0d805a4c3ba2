use Rattle.std.proofs.Common.{◌≡◌, ◌<◌, [], ℕ, length, get_or}
use Rattle.wf_recur.specs.Reaching.{IsRow, rows_in}
use Rattle.wf_recur.proofs.reach.derived.Given as goal

abbrev pub invariant-loop-m : goal.invariant-loop-m
invariant-loop-m l = record {
  count : length (rows_in l.rows.items) ≡ l.m;
  each : (k : ℕ) → k < l.m → IsRow l.g.core k (get_or (rows_in l.rows.items) k []);
}
