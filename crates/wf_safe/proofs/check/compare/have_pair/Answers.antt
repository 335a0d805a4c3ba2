use Rattle.std.proofs.Common.{sym, arith}
use Rattle.std.proofs.lemmas.Bool.Decides.{nat_tests}
use Rattle.wf_safe.proofs.Tables.{no_bit}
use Rattle.wf_safe.proofs.check.compare.have_pair.Goals as goal

pub returns-in-None : goal.returns-in-None
returns-in-None c =
    let past = c.in-None.ensures.lookup in
    sym (no_bit c.args.rows.now c.args.input.0 c.args.output.0 (grind (arith, nat_tests)))
