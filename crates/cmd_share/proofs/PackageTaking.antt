-- How PACKAGE ends a command, or is taken on.
use Rattle.std.proofs.Common.{ℕ, Bool, List, [], ◌∷◌, Option}
use Rattle.wf_io.specs.Told.{File}
use Rattle.wf_io.specs.Readings.{Reading}
use Rattle.wf_message.specs.Endings.{End}
use Rattle.wf_stage.specs.Stages.{OfWhole}
use Rattle.wf_stage.specs.Promises.{HasRead, HasStopped, Obeys}
use Rattle.wf_stage.proofs.Ends.{begins_nothing}
use Rattle.wf_stage.proofs.Obeying.{obeys_stop, obeys_on}
use Rattle.cmd_share.specs.PackageTold.{PackageValue, PackageStage, TellsPackage, RefusesPackage, package_kind}
use Rattle.cmd_share.proofs.PackageValues.{one_package, no_refusal_of_package}

module _ {S T : Type 0} {files : S → Option (List ℕ → File)} {readings : S → Option (List Reading)} {faults : S → ℕ} {last : S → Bool} {bytes : T → Option (List ℕ)} {counts : T → ℕ} {out_last : T → Bool} {name : List ℕ} {names : List (List ℕ)} (Next : (List ℕ → File) → PackageValue → End → List ℕ → Type 0) where
  pub package_stops : (s t : S) (o : T) (e : End) → HasStopped files readings faults last package_kind name (OfWhole RefusesPackage) s t e → Obeys files readings faults last bytes counts out_last (name ∷ names) [] (λ f. PackageStage (f name) (Next f)) s t o o e
  package_stops = obeys_stop [] Next (λ f a. begins_nothing (Next f a))

  pub package_goes : (s t u : S) (o p : T) (e : End) (v : PackageValue) → HasRead files readings faults package_kind name TellsPackage s t v → Obeys files readings faults last bytes counts out_last names [] (λ f. Next f v) t u o p e → Obeys files readings faults last bytes counts out_last (name ∷ names) [] (λ f. PackageStage (f name) (Next f)) s u o p e
  package_goes = obeys_on [] Next one_package (λ b v line fault told r. no_refusal_of_package b fault v told r.1)
