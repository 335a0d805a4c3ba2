use Rattle.std.proofs.Common.{◌≡◌, ℕ, ◌<◌, take}
use Rattle.wf_form.specs.Rules.{module_names}
use Rattle.wf_spec.specs.Naming.{IsNewAt}
use Rattle.wf_form.proofs.checks.numbering.numbered_names.Given as goal

abbrev pub invariant-loop-k : goal.invariant-loop-k
invariant-loop-k l = record {
  names : l.names ≡ module_names (take l.k l.modules);
  new : (j : ℕ) → j < l.k → IsNewAt (module_names l.modules) j;
}
