-- `package`, `consult` and `compare` over good files do all that they are to do.
use Rattle.std.proofs.Common.{ℕ, List, []}
use Rattle.wf_spec.specs.Held.{HeldGrammar}
use Rattle.wf_io.specs.Told.{File}
use Rattle.wf_stage.specs.Stages.{OfWhole}
use Rattle.wf_stage.specs.Outcomes.{EndsInDone}
use Rattle.wf_inputs.specs.Inputs.{coarse_kind, ViewStage}
use Rattle.wf_inputs.specs.GoodFiles.{HaveView}
use Rattle.wf_inputs.proofs.GoodFiles.{spec_goes_on, view_goes_on, view_file_goes_on}
use Rattle.wf_stage.proofs.TwoStages.{stage_goes_on}
use Rattle.cmd_share.specs.PackageTold.{package_kind, TellsPackage, RefusesPackage}
use Rattle.cmd_share.specs.Consulted.{ConsultsLabels}
use Rattle.cmd_share.specs.Words.{Command, Package, Consult, Compare}
use Rattle.cmd_share.specs.Told.{ComparesViews}
use Rattle.cmd_share.specs.Does.{IsPackaged, Packages, Consults, ComparesWith, ComparesIn, Compares, Does}
use Rattle.cmd_share.specs.Family.{CanConsult, CanCompare, CanShare}
use Rattle.cmd_share.proofs.PackageValues.{one_package, no_refusal_of_package}
use Rattle.cmd_share.proofs.GoodPackages.{told_good}
use Rattle.cmd_share.proofs.OneConsulting.{good_consulting}
use Rattle.cmd_share.proofs.OneComparing.{good_views}
use Rattle.cmd_share.proofs.ToldViews.{told_two}

good_package : (spec view : File) (h : HeldGrammar) → HaveView spec view h → EndsInDone (Packages spec view)
good_package spec view h good e t p =
    (view_goes_on h.core view good.1.0 good.1.1 (IsPackaged h.core) e t
    (spec_goes_on spec h good.0 (λ k. ViewStage k.core view (IsPackaged k.core)) e t p)).0

good_consult : (file : File) (first second : List ℕ) → CanConsult file first second → EndsInDone (Consults file first second)
good_consult file first second good e t h =
    good_consulting good.value (told_good file.bytes good.value good.has.tells) first second good.first_label good.second_label e t
    (stage_goes_on package_kind [] file TellsPackage (OfWhole RefusesPackage) (λ p. ConsultsLabels p first second) good.value good.has.short good.has.whole
    (λ b told. one_package file.bytes good.value b good.has.tells told)
    (λ l x r. no_refusal_of_package file.bytes x good.value good.has.tells r.1) e t h)

good_compare : (spec view coarse : File) → CanCompare spec view coarse → EndsInDone (Compares spec view coarse)
good_compare spec view coarse good e t h =
    let g = good.grammar.core in
    good_views g good.fine good.second (told_two spec.bytes good.grammar good.has_grammar.tells view.bytes good.fine good.has_fine.tells coarse.bytes good.second good.has_second.tells) good.coarser e t
    (view_file_goes_on coarse_kind g coarse good.second good.has_second (ComparesViews g good.fine) e t
    (view_goes_on g view good.fine good.has_fine (λ u. ComparesWith g u coarse) e t
    (spec_goes_on spec good.grammar good.has_grammar (λ k. ComparesIn k.core view coarse) e t h)))

pub good_sharing : (files : List ℕ → File) (c : Command) → CanShare files c → EndsInDone (Does files c)
good_sharing files (Package s v) good = good_package (files s) (files v) good.0 good.1
good_sharing files (Consult p x y) good = good_consult (files p) x y good
good_sharing files (Compare s v w) good = good_compare (files s) (files v) (files w) good
