-- `package`, `consult` and `compare` have one outcome at most.
use Rattle.std.proofs.Common.{ℕ, List, [], sym, ◌∙◌}
use Rattle.wf_io.specs.Told.{File}
use Rattle.wf_stage.specs.Outcomes.{HasOneOutcome}
use Rattle.wf_inputs.specs.Inputs.{coarse_kind}
use Rattle.wf_inputs.proofs.OneStages.{one_spec_stage, one_view_stage, one_view_file_stage}
use Rattle.wf_package.proofs.OneText.{one_text}
use Rattle.wf_message.specs.Endings.{End}
use Rattle.wf_stage.specs.Stages.{OfWhole}
use Rattle.wf_stage.proofs.TwoStages.{same_outcome}
use Rattle.cmd_share.specs.PackageTold.{PackageValue, package_kind, TellsPackage, RefusesPackage}
use Rattle.cmd_share.specs.Consulted.{ConsultsLabels}
use Rattle.cmd_share.specs.Words.{Command, Package, Consult, Compare}
use Rattle.cmd_share.specs.Does.{IsPackaged, Packages, Consults, Compares, Does}
use Rattle.cmd_share.proofs.PackageValues.{one_package, one_refusal_of_package, no_refusal_of_package}
use Rattle.cmd_share.proofs.GoodPackages.{told_good}
use Rattle.cmd_share.proofs.OneConsulting.{one_consulting}
use Rattle.cmd_share.proofs.OneComparing.{one_views}
use Rattle.cmd_share.proofs.ToldViews.{told_two}

one_packaged : (spec view : File) → HasOneOutcome (Packages spec view)
one_packaged spec view =
    one_spec_stage spec _ (λ h p.
    one_view_stage spec.bytes h p view (IsPackaged h.core) (λ u q d e t s a b.
    (a.0 ∙ sym b.0, one_text h.core u t s a.1 b.1)))

one_consult : (file : File) (first second : List ℕ) → HasOneOutcome (Consults file first second)
one_consult file first second =
    let Next : PackageValue → End → List ℕ → Type 0 = λ p. ConsultsLabels p first second in
    same_outcome package_kind [] file TellsPackage (OfWhole RefusesPackage) Next Next (one_package file.bytes)
    (λ l m x y p q. (p.0 ∙ sym q.0, one_refusal_of_package file.bytes x y p.1 q.1))
    (λ v l x told r. no_refusal_of_package file.bytes x v told r.1)
    (λ v told. one_consulting v (told_good file.bytes v told) first second)

one_compare : (spec view coarse : File) → HasOneOutcome (Compares spec view coarse)
one_compare spec view coarse =
    one_spec_stage spec _ (λ h p.
    one_view_stage spec.bytes h p view _ (λ u q.
    one_view_file_stage coarse_kind spec.bytes h p coarse _ (λ c r.
    one_views h.core u c (told_two spec.bytes h p view.bytes u q coarse.bytes c r))))

pub one_sharing : (files : List ℕ → File) (c : Command) → HasOneOutcome (Does files c)
one_sharing files (Package s v) = one_packaged (files s) (files v)
one_sharing files (Consult p x y) = one_consult (files p) x y
one_sharing files (Compare s v w) = one_compare (files s) (files v) (files w)
