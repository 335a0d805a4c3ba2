use Rattle.std.proofs.Common.{ℕ, ◌<◌}
use Rattle.wf_model.specs.Lists.{IsAt}
use Rattle.wf_form.specs.declared.wiring.Wiring.{Wiring}
use Rattle.wf_form.specs.Wiring.{IsWiredForward}
use Rattle.wf_form.proofs.links.wirings.first_cycle.Given as goal

abbrev pub invariant-loop-k : goal.invariant-loop-k
invariant-loop-k l = (j : ℕ) → j < l.k → (w : Wiring) → IsAt w j l.wirings → IsWiredForward w
