use Rattle.std.proofs.Common.{ℕ, ◌<◌, ◌^◌, ◌⊎◌, ◌↔◌, IsTrue}
use Rattle.bool_mat.specs.Matrix.{has, Selects}
use Rattle.bool_mat.proofs.row.union.Given as goal

-- what is gathered so far, with what the columns that are left select, is what the row selects
abbrev pub invariant-loop-left : goal.invariant-loop-left
invariant-loop-left l =
    record {
      whole : (k : ℕ) → Selects l.row (record { rows = l.rows; columns = l.columns }) k ↔ (IsTrue (has l.union k) ⊎ Selects l.left (record { rows = l.rows; columns = l.columns }) k);
      within : l.union < 2 ^ l.columns;
    }

abbrev pub decreases-loop-left : goal.decreases-loop-left
decreases-loop-left l = l.left
