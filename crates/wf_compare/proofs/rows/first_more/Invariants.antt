use Rattle.std.proofs.Common.{ℕ, ◌<◌}
use Rattle.wf_compare.specs.Pairs.{IsMore}
use Rattle.wf_compare.proofs.rows.first_more.Given as goal

-- the rows so far have no more
abbrev pub invariant-loop-i : goal.invariant-loop-i
invariant-loop-i l = (k o : ℕ) → k < l.i → IsMore l.one l.other k o → ⊥
