use Rattle.std.proofs.Common.{[], sym, subst}
use Rattle.wf_package.specs.PackageText.{IsPackageText}
use Rattle.wf_package.proofs.OneText.{one_text}
use Rattle.wf_stage.specs.Ends.{IsWritten}
use Rattle.wf_stage.proofs.Ends.{begins_nothing}
use Rattle.wf_stage.proofs.Writing.{writes_wanting, writes_alike}
use Rattle.cmd_share.specs.Does.{IsPackaged}
use Rattle.cmd_share.proofs.package.put_package.Goals as goal

pub returns-in_default-clause-writes : goal.returns-in_default-clause-writes
returns-in_default-clause-writes g c =
    writes_wanting [] _ (begins_nothing _) _

pub returns-clause-writes : goal.returns-clause-writes
returns-clause-writes g c =
    let h = c.args.v.now.accepted.grammar.core in
    let u = c.args.v.now.view.core in
    let held = c.deref.result.now in
    let told = subst (IsPackageText h u) (sym c.deref.ensures.value) c.in-Ok.ensures in
    writes_alike [] (IsWritten held) (IsPackaged h u)
    (λ e t p. (p.0, subst (IsPackageText h u) (sym p.1) told))
    (λ e t p. (p.0, one_text h u t held p.1 told)) _ _ _ c.put_text.ensures.writes
