use Rattle.std.proofs.Common.{ℕ, ◌<◌}
use Rattle.compare_model.specs.Coarser.{IsExpandedAlone}
use Rattle.wf_compare.proofs.coarser.first_expanded_alone.Given as goal

-- the modules so far
abbrev pub invariant-loop-k : goal.invariant-loop-k
invariant-loop-k l = (m : ℕ) → m < l.k → IsExpandedAlone l.coarse.view.now.core l.fine.core m → ⊥
