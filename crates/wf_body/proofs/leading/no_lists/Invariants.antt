use Rattle.std.proofs.Common.{◌≡◌, ℕ, length}
use Rattle.wf_model.specs.Grammar.{Edge}
use Rattle.wf_model.specs.Lists.{IsIn}
use Rattle.wf_body.specs.Words.{edges_in}
use Rattle.wf_body.proofs.leading.no_lists.Given as goal

abbrev pub invariant-loop-k : goal.invariant-loop-k
invariant-loop-k l = record { count : length l.lists.items ≡ l.k; none : (k : ℕ) (e : Edge) → IsIn e (edges_in l.lists.items k) → ⊥ }
