-- What is read from the text of the package of a safe view is this package, or memory was refused.
use Rattle.std.proofs.Common.{◌≡◌, ℕ, List, IfOk, IfErr}
use Rattle.std.specs.declared.result.Result.{Result}
use Rattle.std.specs.declared.result.Result.TheVariants.{Ok, Err}
use Rattle.package_model.specs.Shown.{shown_of}
use Rattle.wf_loops.specs.Looped.{LoopedValue}
use Rattle.wf_safe.specs.SafeViews.{SafeViewValue, IsSafeView}
use Rattle.package_file.specs.declared.fault.PackFault.{PackFault}
use Rattle.package_file.specs.declared.fault.PackFault.TheVariants.{NoMemory}
use Rattle.package_file.specs.Packed.{TellsPackage, IsFaultOfBytes}
use Rattle.wf_package.specs.PackageText.{IsPackageText}
use Rattle.package_laws.specs.ReadBack.{IsReadBack, ReadBackLaw, IsPackageOfView}

module _ (law : ReadBackLaw) (v : SafeViewValue) (safe : IsSafeView v) (text : List ℕ) (is : IsPackageText v.accepted.grammar.core v.view.core text) where
  back : IsReadBack (shown_of v.accepted.grammar.core v.view.core is.0 is.1) text
  back =
      let a = safe.accepted in
      law v.accepted.grammar.core v.view.core is.0 is.1 a.formed a.proper a.linear safe.held.is_view.expanded safe.safe is.2 text is

  pub shown_back : (r : Result LoopedValue PackFault) → IfOk r (λ p. TellsPackage text p) → IfOk r (λ p. IsPackageOfView v.accepted.grammar.core v.view.core p)
  shown_back (Ok p) told = (is.0, is.1, is.2, back.held p told)
  shown_back (Err f) told = tt

  pub memory_back : (r : Result LoopedValue PackFault) → IfErr r (λ f. IsFaultOfBytes text f) → IfErr r (λ f. f ≡ NoMemory)
  memory_back (Ok p) told = tt
  memory_back (Err f) told = back.faultless f told
