use Rattle.std.proofs.lemmas.Result.{err_from_is_err_and}
use Rattle.wf_stage.specs.Stages.{OfWhole}
use Rattle.wf_stage.proofs.Reading.{reads_on, reads_stop}
use Rattle.cmd_share.specs.PackageTold.{TellsPackage, RefusesPackage, package_value}
use Rattle.cmd_share.proofs.package_input.package_stage.Goals as goal

pub returns-in_err-bytes : goal.returns-in_err-bytes
returns-in_err-bytes g c = record {
  reads =
      reads_stop g.H.Shelf.at_last TellsPackage package_value (OfWhole RefusesPackage) _ _ c.in_err-bytes.field-0.0 c.from_residual.result
      (err_from_is_err_and c.from_residual.result c.from_residual.ensures.1) c.in_err-bytes.ensures.reads;
}

pub returns : goal.returns
returns g c = record {
  reads =
      reads_on g.H.Shelf.at_last TellsPackage package_value (OfWhole RefusesPackage) _ _ _ c.deref.result.now c.in_ok-bytes.ensures.reads c.deref.ensures.value c.package_of_bytes.result c.package_of_bytes.ensures.ok c.package_of_bytes.ensures.declines;
}
