use Rattle.std.proofs.Common.{◌≡◌, ◌+◌, ◌∙◌, subst, sym, arith, length}
use Rattle.bool_mat.proofs.Rows.{Column, column_none, column_in, column_out, column_whole}
use Rattle.std.proofs.lemmas.Nat.{pow_below}
use Rattle.bool_mat.proofs.row.column.Goals as goal
use Rattle.bool_mat.proofs.row.column.Goals.{then-has_column, else-has_column}

pub loop-i-init : goal.loop-i-init
loop-i-init c = column_none c.args.rows.now c.args.j

pub loop-i-preserved : goal.loop-i-preserved
loop-i-preserved c =
    elim c.if-has_column.branch [
      | then-has_column w ↦ let p = pow_below c.loop-i.i (c.loop-i.i + 1) (omega arith) in
          let e = w.single-column.ensures.within in
          subst (λ z. Column c.args.rows.now c.args.j (c.loop-i.i + 1) z) (sym w.column-is)
          (column_in c.args.rows.now c.args.j c.loop-i.i c.loop-i.column w.single-column.result c.loop-i.invariant (sym c.has_column.ensures ∙ w.if-has_column.true) w.single-column.ensures.columns (omega arith))
      | else-has_column w ↦ subst (λ z. Column c.args.rows.now c.args.j (c.loop-i.i + 1) z) (sym w.column-is)
          (column_out c.args.rows.now c.args.j c.loop-i.i c.loop-i.column c.loop-i.invariant (sym c.has_column.ensures ∙ w.if-has_column.false))
    ]

pub returns-clause-pairs : goal.returns-clause-pairs
returns-clause-pairs c =
    let e : c.loop-i.i ≡ length c.args.rows.now = omega arith in
    column_whole c.args.rows.now c.args.j c.loop-i.column (subst (λ z. Column c.args.rows.now c.args.j z c.loop-i.column) e c.loop-i.invariant)
