use Rattle.std.proofs.lemmas.Result.{err_from_is_err_and}
use Rattle.wf_stage.proofs.Obeying.{obeys_passed, obeys_writing}
use Rattle.cmd_share.proofs.PackageTaking.{package_stops, package_goes}
use Rattle.cmd_share.proofs.consult.consult.Goals as goal

pub returns-in_err-held-clause-obeys : goal.returns-in_err-held-clause-obeys
returns-in_err-held-clause-obeys g c =
    obeys_passed _ _ _ _ _ _ c.from_residual.result c.in_err-held.field-0.0 (err_from_is_err_and c.from_residual.result c.from_residual.ensures.1)
    (package_stops _ _ _ _ _ c.in_err-held.ensures.reads)

pub returns-clause-obeys : goal.returns-clause-obeys
returns-clause-obeys g c = package_goes _ _ _ _ _ _ _ _ c.in_ok-held.ensures.reads (obeys_writing _ _ _ _ _ _ c.put_verdict.ensures.writes)
