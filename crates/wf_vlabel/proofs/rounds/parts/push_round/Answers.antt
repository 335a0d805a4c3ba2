use Rattle.std.proofs.Common.{arith}
use Rattle.std.proofs.lemmas.Result.{IfOk-weaker}
use Rattle.bool_mat.specs.Matrix.{matrix_at}
use Rattle.wf_vlabel.proofs.Parts.{parts_fit, parts_round}
use Rattle.wf_vlabel.proofs.rounds.parts.push_round.Goals as goal

pub joined-requires-clause-fit : goal.joined-requires-clause-fit
joined-requires-clause-fit c =
    let p = c.requires.parts in
    parts_fit c.args.way p.0 p.1 p.2 c.args.size c.args.pool.now c.args.place p.4 c.requires.place (omega (arith, c.if-place-eq0.false)) p.3

pub returns-clause-round : goal.returns-clause-round
returns-clause-round c =
    IfOk-weaker c.joined.result _ _
    (λ n h g d first back p. parts_round c.args.way g d first c.args.size c.args.pool.now c.args.place (matrix_at c.joined.new.pool n.0) p c.requires.place (omega (arith, c.if-place-eq0.false)) back h)
    c.joined.ensures.product
