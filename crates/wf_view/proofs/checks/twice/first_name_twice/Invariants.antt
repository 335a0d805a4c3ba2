use Rattle.std.proofs.Common.{◌≡◌, ℕ, ◌<◌, take}
use Rattle.wf_spec.specs.Naming.{IsNewAt}
use Rattle.wf_view.proofs.checks.twice.first_name_twice.Given as goal

abbrev pub invariant-loop-k : goal.invariant-loop-k
invariant-loop-k l = record {
  taken : l.taken ≡ take l.k l.names;
  new : (j : ℕ) → j < l.k → IsNewAt l.names j;
}
