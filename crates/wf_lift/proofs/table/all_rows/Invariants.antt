use Rattle.std.proofs.Common.{◌≡◌, ℕ, ◌<◌, [], length, get_or, map}
use Rattle.wf_lift.specs.LiftedRows.{AreLiftedRows}
use Rattle.wf_lift.proofs.table.all_rows.Given as goal

-- the modules so far
abbrev pub invariant-loop-m : goal.invariant-loop-m
invariant-loop-m l = record {
  one_each : length l.table.items ≡ l.m;
  lifted : (m : ℕ) → m < l.m → AreLiftedRows l.sight.grammar.now.core l.sight.view.now.core l.automaton m (get_or (map (λ r. r.items) l.table.items) m []);
}
