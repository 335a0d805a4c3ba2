-- A family of commands: how it reads its words and what its commands do. Two families are one again, which asks the first before the other.
use Rattle.std.specs.Prelude.{ℕ, List, Option, Some, None}
use Rattle.wf_io.specs.Told.{File}
use Rattle.wf_message.specs.Endings.{End}
use Rattle.wf_stage.specs.declared.family.Either.{Either}
use Rattle.wf_stage.specs.declared.family.Either.TheVariants.{First, Other}
use Rattle.wf_stage.specs.Outcomes.{HasOneOutcome, HasOutcome, EndsInDone}

-- A family of commands: its commands, with their words; the command that words are, if they are one of the family; the names of the files of a command, in the order in which they are read; what a command does over files, which is how it ends and the text that it writes; when the files of a command are good, which is that nothing in them or in its words is refused; and which commands have put nothing where they end for want of memory
pub record Family : Type 1 where
  pub Command : Type 0
  pub command_of : List (List ℕ) → Option Command
  pub files_of : Command → List (List ℕ)
  pub Does : (List ℕ → File) → Command → End → List ℕ → Type 0
  pub IsGood : (List ℕ → File) → Command → Type 0
  pub PutsNothingWanting : Command → Type 0

-- words that are a command of the first family are that one; else they are what they are in the other family
abbrev pub command_of_either : {A B : Type 0} → Option A → Option B → Option (Either A B)
command_of_either (Some a) b = Some (First a)
command_of_either None (Some b) = Some (Other b)
command_of_either None None = None

module _ {A B : Type 0} where
  -- the files of a command of two families are those that it has in its own
  abbrev pub files_of_either : (A → List (List ℕ)) → (B → List (List ℕ)) → Either A B → List (List ℕ)
  files_of_either first other (First a) = first a
  files_of_either first other (Other b) = other b

  -- a command of two families does what it does in its own
  abbrev pub does_either : ((List ℕ → File) → A → End → List ℕ → Type 0) → ((List ℕ → File) → B → End → List ℕ → Type 0) → (List ℕ → File) → Either A B → End → List ℕ → Type 0
  does_either first other files (First a) = first files a
  does_either first other files (Other b) = other files b

  -- its files are good where they are so for its own
  abbrev pub good_for_either : ((List ℕ → File) → A → Type 0) → ((List ℕ → File) → B → Type 0) → (List ℕ → File) → Either A B → Type 0
  good_for_either first other files (First a) = first files a
  good_for_either first other files (Other b) = other files b

  -- it puts nothing where memory is wanting if it does so in its own
  abbrev pub nothing_by_either : (A → Type 0) → (B → Type 0) → Either A B → Type 0
  nothing_by_either first other (First a) = first a
  nothing_by_either first other (Other b) = other b

-- Two families as one. Each part is made of the same parts of the two alone, so that it stays short where a family is made of many
abbrev pub either : Family → Family → Family
either A B = record {
  Command = Either A.Command B.Command;
  command_of = λ words. command_of_either (A.command_of words) (B.command_of words);
  files_of = files_of_either A.files_of B.files_of;
  Does = does_either A.Does B.Does;
  IsGood = good_for_either A.IsGood B.IsGood;
  PutsNothingWanting = nothing_by_either A.PutsNothingWanting B.PutsNothingWanting;
}

-- each command has one outcome at most over the same files: one end and one text
abbrev pub HaveOneOutcome : Family → Type 0
HaveOneOutcome family = (files : List ℕ → File) (c : family.Command) → HasOneOutcome (family.Does files c)

-- each command has an outcome over all files: an end and a text
abbrev pub HaveOutcomes : Family → Type 0
HaveOutcomes family = (files : List ℕ → File) (c : family.Command) → HasOutcome (family.Does files c)

-- over good files each command ends in that all is done, and in nothing else
abbrev pub AreDoneWhereGood : Family → Type 0
AreDoneWhereGood family = (files : List ℕ → File) (c : family.Command) → family.IsGood files c → EndsInDone (family.Does files c)
