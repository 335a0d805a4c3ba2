-- `package`, `consult` and `compare` as a family of commands.
use Rattle.std.specs.Prelude.{ℕ, List}
use Rattle.wf_model.specs.View.{View}
use Rattle.wf_spec.specs.Held.{HeldGrammar}
use Rattle.wf_io.specs.Told.{File}
use Rattle.compare_model.specs.Coarser.{IsCoarser}
use Rattle.wf_stage.specs.Families.{Family}
use Rattle.wf_inputs.specs.Inputs.{coarse_kind}
use Rattle.wf_inputs.specs.GoodFiles.{HasGrammar, HasView, HasViewOf, HaveView}
use Rattle.wf_stage.specs.Stages.{IsTold}
use Rattle.cmd_share.specs.PackageTold.{PackageValue, TellsPackage, package_kind}
use Rattle.cmd_share.specs.Consulted.{IsLabelOver}
use Rattle.cmd_share.specs.Words.{Command, Package, Consult, Compare, command_of, files_of}
use Rattle.cmd_share.specs.Does.{Does}

-- SPEC is accepted, and the two views are well-formed and safe, and the second is coarser than the first, or as coarse
pub record CanCompare (spec view coarse : File) : Type 0 where
  pub grammar : HeldGrammar
  pub has_grammar : HasGrammar spec grammar
  pub fine : View
  pub has_fine : HasView grammar.core view fine
  pub second : View
  pub has_second : HasViewOf coarse_kind grammar.core coarse second
  pub coarser : IsCoarser second fine

-- PACKAGE is whole and not too long, and it is a package; and the words of labels are labels over it
pub record CanConsult (file : File) (first second : List ℕ) : Type 0 where
  pub value : PackageValue
  pub has : IsTold package_kind file TellsPackage value
  pub first_label : IsLabelOver value first
  pub second_label : IsLabelOver value second

-- the files of a command are good, and so are its words
abbrev pub CanShare : (List ℕ → File) → Command → Type 0
CanShare files (Package s v) = (h : HeldGrammar) × HaveView (files s) (files v) h
CanShare files (Consult p x y) = CanConsult (files p) x y
CanShare files (Compare s v w) = CanCompare (files s) (files v) (files w)

-- each makes its text whole before it puts any of it, so it has put nothing where it ends for want of memory
abbrev pub share_commands : Family
share_commands = record {
  Command = Command;
  command_of = command_of;
  files_of = files_of;
  Does = Does;
  IsGood = CanShare;
  PutsNothingWanting = λ c. Unit {0};
}
