use Rattle.std.proofs.Common.{ℕ, ◌<◌}
use Rattle.wf_model.specs.declared.parts.ProdPart.{ProdPart}
use Rattle.wf_model.specs.Lists.{IsAt, AllDiffer}
use Rattle.wf_form.specs.Rules.{position_names}
use Rattle.wf_form.proofs.checks.different.first_position_twice.Given as goal

abbrev pub invariant-loop-k : goal.invariant-loop-k
invariant-loop-k l = (j : ℕ) → j < l.k → (p : ProdPart) → IsAt p j l.productions → AllDiffer (position_names p)
