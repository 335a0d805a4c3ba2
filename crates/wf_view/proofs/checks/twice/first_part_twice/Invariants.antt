use Rattle.std.proofs.Common.{◌≡◌, ℕ, ◌<◌, take}
use Rattle.wf_spec.specs.Naming.{IsNewAt}
use Rattle.wf_view.specs.Rules.{deps_names}
use Rattle.wf_view.proofs.checks.twice.first_part_twice.Given as goal

abbrev pub invariant-loop-k : goal.invariant-loop-k
invariant-loop-k l = record {
  taken : l.taken ≡ deps_names (take l.k l.deps);
  new : (j : ℕ) → j < l.k → IsNewAt (deps_names l.deps) j;
}
