-- What `decide` does.
use Rattle.std.specs.Prelude.{ℕ, List}
use Rattle.hex.specs.Hex.{decode_of}
use Rattle.wf_io.specs.Told.{File}
use Rattle.wf_message.specs.Endings.{End}
use Rattle.wf_inputs.specs.Inputs.{SpecStage, ViewStage}
use Rattle.cmd_decide.specs.declared.command.Command.{Command as CommandHeld}
use Rattle.cmd_decide.specs.declared.command.Command.TheVariants.{Decide as DecidesHeld}
use Rattle.label_words.specs.Digits.{bytes_in}
use Rattle.cmd_decide.specs.Words.{Command, Decide}
use Rattle.cmd_decide.specs.Decided.{DecidesLabels}

-- `decide` over SPEC and VIEW, with the bytes of two labels
abbrev pub Decides : File → File → List ℕ → List ℕ → End → List ℕ → Type 0
Decides spec view first second = SpecStage spec (λ h. ViewStage h.core view (λ u. DecidesLabels h.core u first second))

-- the command that a value is
abbrev pub meant : CommandHeld → Command
meant (DecidesHeld w) = Decide w.spec.now w.view.now (bytes_in (decode_of w.first.word.now)) (bytes_in (decode_of w.second.word.now))

-- what a command does over files
abbrev pub Does : (List ℕ → File) → Command → End → List ℕ → Type 0
Does files (Decide s v x y) = Decides (files s) (files v) x y
