use Rattle.std.proofs.Common.{refl, subst}
use Rattle.cmd_ask.specs.Told.{IsReady}
use Rattle.cmd_ask.proofs.OneWord.{one_prepared_word}
use Rattle.cmd_ask.proofs.trace.answer_prepared.Goals as goal

pub returns : goal.returns
returns g c =
    let p = c.args.p.now in
    let one = one_prepared_word p (subst IsReady c.p.view_is c.p.invariant) in
    record {
      obeys = c.queries_stage.ensures.obeys p refl one;
    }
