use Rattle.std.proofs.Common.{ℕ, ◌<◌, map}
use Rattle.wf_model.specs.Lists.{Walk}
use Rattle.wf_model.specs.Meaning.{edge_of}
use Rattle.wf_form.specs.Graphs.{IsJoined}
use Rattle.wf_form.proofs.links.cycle.has_no_cycle.Given as goal

abbrev pub invariant-loop-k : goal.invariant-loop-k
invariant-loop-k l = (a b : ℕ) → b < l.k → IsJoined (map edge_of l.edges) a b → Walk (IsJoined (map edge_of l.edges)) b a → ⊥
