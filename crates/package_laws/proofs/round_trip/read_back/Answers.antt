use Rattle.std.proofs.Common.{sym, subst}
use Rattle.wf_package.specs.PackageText.{IsPackageText}
use Rattle.package_laws.proofs.RoundTrip.{shown_back, memory_back}
use Rattle.package_laws.proofs.round_trip.read_back.Goals as goal

pub returns-clause-shown : goal.returns-clause-shown
returns-clause-shown c =
    let v = c.args.v.now in
    let text = subst (IsPackageText v.accepted.grammar.core v.view.core) (sym c.deref.ensures.value) c.in_ok-text.ensures in
    let r = c.read_package_with_key in
    shown_back c.read_back_law.ensures v c.accepted-safe.ensures.safe c.deref.result.now text r.result r.ensures.ok

pub returns-clause-memory : goal.returns-clause-memory
returns-clause-memory c =
    let v = c.args.v.now in
    let text = subst (IsPackageText v.accepted.grammar.core v.view.core) (sym c.deref.ensures.value) c.in_ok-text.ensures in
    let r = c.read_package_with_key in
    memory_back c.read_back_law.ensures v c.accepted-safe.ensures.safe c.deref.result.now text r.result r.ensures.refused
