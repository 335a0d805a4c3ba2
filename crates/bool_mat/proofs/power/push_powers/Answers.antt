use Rattle.std.proofs.Common.{length, take, ◌∙◌, arith, ap}
use Rattle.std.proofs.lemmas.Result.{err_from_is_err_and}
use Rattle.bool_mat.proofs.Powers.{table_one, table_more, table_room, table_square, adds_front}
use Rattle.bool_mat.proofs.power.push_powers.Goals as goal

pub loop-done-init : goal.loop-done-init
loop-done-init c = table_one _ _ _ _ c.in_ok-first.ensures.is_matrix c.in_ok-first.ensures.added c.in_ok-first.ensures.same

pub product-requires-clause-a : goal.product-requires-clause-a
product-requires-clause-a c = table_room _ _ _ _ _ _ (omega arith) c.loop-done.invariant

pub product-requires-clause-b : goal.product-requires-clause-b
product-requires-clause-b c = table_room _ _ _ _ _ _ (omega arith) c.loop-done.invariant

pub product-requires-clause-fits : goal.product-requires-clause-fits
product-requires-clause-fits c = table_square _ _ _ _ _ _ (omega arith) c.loop-done.invariant c.requires.square

pub loop-done-preserved : goal.loop-done-preserved
loop-done-preserved c = table_more _ _ _ _ _ _ _ _ (omega arith) c.loop-done.invariant c.in_ok-last.ensures.added c.in_ok-last.ensures.product

pub returns-in_err-last-clause-err : goal.returns-in_err-last-clause-err
returns-in_err-last-clause-err c =
    let p = err_from_is_err_and c.from_residual-in_err-last.result c.from_residual-in_err-last.ensures.1 in
    rw p.1 (ap (take (length c.args.pool.now)) c.in_err-last.ensures.err ∙ adds_front _ _ _ _ c.loop-done.invariant.added)
