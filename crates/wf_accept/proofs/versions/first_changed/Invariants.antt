use Rattle.std.proofs.Common.{ℕ, ◌<◌}
use Rattle.wf_model.specs.Lists.{IsAt}
use Rattle.wf_spec.specs.declared.version.Version.{Version}
use Rattle.wf_accept.specs.Accepted.{KeepsItsCycles}
use Rattle.wf_accept.proofs.versions.first_changed.Given as goal

abbrev pub invariant-loop-n : goal.invariant-loop-n
invariant-loop-n l = (k : ℕ) → k < l.n → (v : Version) → IsAt v k l.g.grammar.now.versions → KeepsItsCycles l.g.grammar.now.core v
