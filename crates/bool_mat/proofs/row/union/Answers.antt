use Rattle.std.proofs.Common.{◌≡◌, w64, arith}
use Rattle.std.specs.Int.{trailing_zeros}
use Rattle.std.proofs.lemmas.Nat.{or_lt, pow_pos}
use Rattle.bool_mat.proofs.Rows.{gather_start, gather_more, gather_end, row_within}
use Rattle.bool_mat.proofs.Lowest.{clears_lowest}
use Rattle.bool_mat.proofs.row.union.Goals as goal

pub loop-left-init : goal.loop-left-init
loop-left-init c = record { whole = gather_start c.args.row (record { rows = c.args.rows.now; columns = c.args.columns }); within = pow_pos c.args.columns }

pub loop-left-smaller : goal.loop-left-smaller
loop-left-smaller c = (clears_lowest c.loop-left.left c.loop-left-test.true (omega arith)).smaller

pub loop-left-preserved : goal.loop-left-preserved
loop-left-preserved c =
    record {
      whole = rw c.row_at-union.ensures (gather_more c.args.row c.loop-left.left _ c.loop-left.union (record { rows = c.args.rows.now; columns = c.args.columns }) (trailing_zeros w64 c.loop-left.left) (clears_lowest c.loop-left.left c.loop-left-test.true (omega arith)) c.loop-left.invariant.whole);
      within = or_lt c.args.columns c.loop-left.union c.row_at-union.result c.loop-left.invariant.within (rw c.row_at-union.ensures (row_within c.args.rows.now c.args.columns (trailing_zeros w64 c.loop-left.left) c.requires));
    }

pub returns-clause-union : goal.returns-clause-union
returns-clause-union c = let e : c.loop-left.left ≡ 0 = c.loop-left-test.false in gather_end c.args.row c.loop-left.union (record { rows = c.args.rows.now; columns = c.args.columns }) (rw e at c.loop-left.invariant.whole)
