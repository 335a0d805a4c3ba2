use Rattle.std.proofs.Common.{ℕ, ◌<◌}
use Rattle.wf_model.specs.Lists.{IsAt}
use Rattle.wf_model.specs.Grammar.{Module}
use Rattle.wf_automaton.specs.Rules.{HasFewPortsIn}
use Rattle.wf_automaton.proofs.checks.check_ports.Given as goal

abbrev pub invariant-loop-one : goal.invariant-loop-one
invariant-loop-one l = (j : ℕ) → j < l.one-index → (m : Module) → IsAt m j l.g.core.modules → HasFewPortsIn l.states m
