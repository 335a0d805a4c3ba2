-- `package`, `consult` and `compare` have an outcome.
use Rattle.std.proofs.Common.{ℕ, List, [], None, refl, inl, inr, ⊎_elim}
use Rattle.wf_io.specs.Told.{File}
use Rattle.wf_stage.specs.Outcomes.{HasOutcome}
use Rattle.wf_message.specs.Endings.{Done}
use Rattle.wf_inputs.specs.Inputs.{coarse_kind}
use Rattle.wf_inputs.proofs.SomeInputs.{some_spec_stage, some_view_stage, some_view_file_stage}
use Rattle.wf_inputs.proofs.ToldGrammars.{told_formed}
use Rattle.wf_package.proofs.OneText.{some_text}
use Rattle.wf_stage.specs.Stages.{OfWhole}
use Rattle.wf_stage.proofs.SomeStages.{some_stage}
use Rattle.cmd_share.specs.PackageTold.{package_kind, TellsPackage, RefusesPackage}
use Rattle.cmd_share.specs.Consulted.{ConsultsLabels}
use Rattle.cmd_share.specs.Words.{Command, Package, Consult, Compare}
use Rattle.cmd_share.specs.Does.{IsPackaged, Packages, Consults, Compares, Does}
use Rattle.cmd_share.proofs.GoodPackages.{told_good}
use Rattle.cmd_share.proofs.SomeConsulting.{package_or_refusal, some_consulting}
use Rattle.cmd_share.proofs.OneComparing.{some_views}
use Rattle.cmd_share.proofs.ToldViews.{told_two}

some_package : (spec view : File) → HasOutcome (Packages spec view)
some_package spec view =
    some_spec_stage spec _ (λ h p.
    some_view_stage spec.bytes h p view (IsPackaged h.core) (λ u q.
    let text = some_text h.core u (told_formed spec.bytes h p) in
    (Done, text.0, (refl, text.1))))

some_consult : (file : File) (first second : List ℕ) → HasOutcome (Consults file first second)
some_consult file first second =
    some_stage package_kind [] file TellsPackage (OfWhole RefusesPackage) (λ p. ConsultsLabels p first second)
    (⊎_elim (λ p. inl p) (λ f. inr (None, f.0, (refl, f.1))) (package_or_refusal file.bytes))
    (λ p told. some_consulting p (told_good file.bytes p told) first second)

some_compare : (spec view coarse : File) → HasOutcome (Compares spec view coarse)
some_compare spec view coarse =
    some_spec_stage spec _ (λ h p.
    some_view_stage spec.bytes h p view _ (λ u q.
    some_view_file_stage coarse_kind spec.bytes h p coarse _ (λ c r.
    some_views h.core u c (told_two spec.bytes h p view.bytes u q coarse.bytes c r))))

pub some_sharing : (files : List ℕ → File) (c : Command) → HasOutcome (Does files c)
some_sharing files (Package s v) = some_package (files s) (files v)
some_sharing files (Consult p x y) = some_consult (files p) x y
some_sharing files (Compare s v w) = some_compare (files s) (files v) (files w)
