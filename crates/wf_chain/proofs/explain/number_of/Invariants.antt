use Rattle.std.proofs.Common.{◌≡◌, ◌<◌, ℕ, get_or}
use Rattle.wf_chain.specs.ItemGraphs.{no_item}
use Rattle.wf_chain.proofs.explain.number_of.Given as goal

abbrev pub invariant-loop-k : goal.invariant-loop-k
invariant-loop-k l = (j : ℕ) → j < l.k → get_or l.items j no_item ≡ l.item → ⊥
