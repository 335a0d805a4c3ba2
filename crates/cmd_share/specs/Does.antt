-- What `package`, `consult` and `compare` do.
use Rattle.std.specs.Prelude.{◌≡◌, ℕ, List}
use Rattle.wf_model.specs.Grammar.{Grammar}
use Rattle.wf_model.specs.View.{View}
use Rattle.wf_io.specs.Told.{File}
use Rattle.wf_message.specs.Endings.{End, Done}
use Rattle.wf_inputs.specs.Inputs.{coarse_kind, SpecStage, ViewFileStage, ViewStage}
use Rattle.wf_package.specs.PackageText.{IsPackageText}
use Rattle.cmd_share.specs.declared.command.Command.{Command as CommandHeld}
use Rattle.cmd_share.specs.declared.command.Command.TheVariants.{Package as PackageHeld, Consult as ConsultHeld, Compare as CompareHeld}
use Rattle.cmd_share.specs.Words.{Command, Package, Consult, Compare}
use Rattle.hex.specs.Hex.{decode_of}
use Rattle.label_words.specs.Digits.{bytes_in}
use Rattle.cmd_share.specs.Told.{ComparesViews}
use Rattle.cmd_share.specs.PackageTold.{PackageStage}
use Rattle.cmd_share.specs.Consulted.{ConsultsLabels}

-- the package of a safe view of a grammar is written
abbrev pub IsPackaged : Grammar → View → End → List ℕ → Type 0
IsPackaged g u ending text = (ending ≡ Done) × IsPackageText g u text

-- `package` over SPEC and VIEW
abbrev pub Packages : File → File → End → List ℕ → Type 0
Packages spec view = SpecStage spec (λ h. ViewStage h.core view (IsPackaged h.core))

-- `consult` over PACKAGE, with the bytes of two labels
abbrev pub Consults : File → List ℕ → List ℕ → End → List ℕ → Type 0
Consults file first second = PackageStage file (λ p. ConsultsLabels p first second)

-- the second view of a grammar beside the first
abbrev pub ComparesWith : Grammar → View → File → End → List ℕ → Type 0
ComparesWith g u coarse = ViewFileStage coarse_kind g coarse (ComparesViews g u)

-- two views of a grammar
abbrev pub ComparesIn : Grammar → File → File → End → List ℕ → Type 0
ComparesIn g view coarse = ViewStage g view (λ u. ComparesWith g u coarse)

-- `compare` over SPEC and two views
abbrev pub Compares : File → File → File → End → List ℕ → Type 0
Compares spec view coarse = SpecStage spec (λ h. ComparesIn h.core view coarse)

-- the command that a value is
abbrev pub meant : CommandHeld → Command
meant (PackageHeld w) = Package w.spec.now w.view.now
meant (ConsultHeld w) = Consult w.source.now (bytes_in (decode_of w.first.word.now)) (bytes_in (decode_of w.second.word.now))
meant (CompareHeld w) = Compare w.spec.now w.view.now w.coarse.now

-- what a command does over files
abbrev pub Does : (List ℕ → File) → Command → End → List ℕ → Type 0
Does files (Package s v) = Packages (files s) (files v)
Does files (Consult p x y) = Consults (files p) x y
Does files (Compare s v w) = Compares (files s) (files v) (files w)
