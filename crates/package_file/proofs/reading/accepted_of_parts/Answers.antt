use Rattle.std.proofs.lemmas.Result.{IfOk-weaker, IfErr-weaker}
use Rattle.package_file.proofs.ReadParts.{form_bad, accept_bad, form_proper}
use Rattle.package_file.proofs.reading.accepted_of_parts.Goals as goal

pub returns-in-Err-clause-refused : goal.returns-in-Err-clause-refused
returns-in-Err-clause-refused c = form_bad c.args.parts c.in-Err.fault c.in-Err.ensures.refused

pub returns-in-Ok-clause-good : goal.returns-in-Ok-clause-good
returns-in-Ok-clause-good c =
    IfOk-weaker c.accepted.result _ _ (λ a good. form_proper c.args.parts c.in-Ok.grammar c.in-Ok.ensures.grammar c.in-Ok.ensures.formed good) c.accepted.ensures.proper

pub returns-in-Ok-clause-refused : goal.returns-in-Ok-clause-refused
returns-in-Ok-clause-refused c =
    IfErr-weaker c.accepted.result _ _ (accept_bad c.args.parts c.in-Ok.grammar c.in-Ok.ensures.grammar) c.accepted.ensures.refused
