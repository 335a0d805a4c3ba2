use Rattle.std.proofs.Common.{ℕ, ◌<◌}
use Rattle.wf_model.specs.declared.parts.ModulePart.{ModulePart}
use Rattle.wf_model.specs.Lists.{IsAt}
use Rattle.wf_form.specs.Rules.{HasDifferentPorts}
use Rattle.wf_form.proofs.checks.different.first_port_twice.Given as goal

abbrev pub invariant-loop-k : goal.invariant-loop-k
invariant-loop-k l = (j : ℕ) → j < l.k → (m : ModulePart) → IsAt m j l.modules → HasDifferentPorts m
