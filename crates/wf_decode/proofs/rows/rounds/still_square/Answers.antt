use Rattle.std.proofs.Common.{◌≤◌, sym, subst}
use Rattle.decode_model.proofs.StillSquares.{still_few}
use Rattle.wf_decode.proofs.rows.rounds.still_square.Goals as goal

pub returns-in-Down-clause-few : goal.returns-in-Down-clause-few
returns-in-Down-clause-few c = subst (λ z. z ≤ 23) (sym c.still_in.ensures) (still_few _)

pub returns-in-Up-clause-few : goal.returns-in-Up-clause-few
returns-in-Up-clause-few c = subst (λ z. z ≤ 23) (sym c.still_out.ensures) (still_few _)
