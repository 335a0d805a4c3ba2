-- What `check` and `view` do.
use Rattle.std.specs.Prelude.{◌≡◌, ℕ, Bool, List}
use Rattle.wf_model.specs.Grammar.{Grammar, Assignment}
use Rattle.wf_model.specs.View.{View as ViewOf}
use Rattle.wf_model.specs.Safe.{IsFull}
use Rattle.wf_io.specs.Told.{File}
use Rattle.wf_check.specs.Proper.{Ranking, IsRankingOf}
use Rattle.wf_recur.specs.Cycles.{CyclesSeen, AreCyclesOf}
use Rattle.wf_message.specs.Endings.{End, Done}
use Rattle.wf_inputs.specs.Inputs.{SpecStage, ViewStage}
use Rattle.cmd_describe.specs.declared.command.Command.{Command as CommandHeld}
use Rattle.cmd_describe.specs.declared.command.Command.TheVariants.{Check as ChecksHeld, View as ViewsHeld}
use Rattle.cmd_describe.specs.Words.{Command, Check, View}
use Rattle.cmd_describe.specs.CheckText.{check_text_of}
use Rattle.cmd_describe.specs.ViewText.{IsSeenTest, view_text_of}

-- the text of a grammar, with its ranks, choices and cycles, is written
abbrev pub IsChecked : Grammar → End → List ℕ → Type 0
IsChecked g ending text = (ending ≡ Done) × ((r : Ranking) × (c : CyclesSeen) × IsRankingOf g r × AreCyclesOf g c × (text ≡ check_text_of g r c))

-- `check` over SPEC: the text of its grammar
abbrev pub Checks : File → End → List ℕ → Type 0
Checks spec = SpecStage spec (λ h. IsChecked h.core)

-- the seen modules, with the pairs that each of their expansions joins, are written
abbrev pub IsViewWritten : Grammar → ViewOf → End → List ℕ → Type 0
IsViewWritten g u ending text =
    (ending ≡ Done) × ((seen : ℕ → Bool) × (d : Assignment) × IsSeenTest g u seen × IsFull g u d × (text ≡ view_text_of g u seen d))

-- `view` over SPEC and VIEW: the text of the view
abbrev pub Views : File → File → End → List ℕ → Type 0
Views spec view = SpecStage spec (λ h. ViewStage h.core view (IsViewWritten h.core))

-- the command that a value is
abbrev pub meant : CommandHeld → Command
meant (ChecksHeld spec) = Check spec.now
meant (ViewsHeld spec view) = View spec.now view.now

-- what a command does over files
abbrev pub Does : (List ℕ → File) → Command → End → List ℕ → Type 0
Does files (Check s) = Checks (files s)
Does files (View s v) = Views (files s) (files v)
