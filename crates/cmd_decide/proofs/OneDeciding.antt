-- `decide` has one outcome at most.
use Rattle.std.proofs.Common.{ℕ, List}
use Rattle.wf_io.specs.Told.{File}
use Rattle.wf_stage.specs.Outcomes.{HasOneOutcome}
use Rattle.wf_inputs.proofs.OneStages.{one_spec_stage, one_view_stage}
use Rattle.cmd_decide.specs.Words.{Command, Decide}
use Rattle.cmd_decide.specs.Does.{Decides, Does}
use Rattle.cmd_decide.proofs.OneDecision.{one_decision}

one_decide : (spec view : File) (first second : List ℕ) → HasOneOutcome (Decides spec view first second)
one_decide spec view first second = one_spec_stage spec _ (λ h told. one_view_stage spec.bytes h told view _ (λ u shown. one_decision h.core u first second))

pub one_deciding : (files : List ℕ → File) (c : Command) → HasOneOutcome (Does files c)
one_deciding files (Decide a b x y) = one_decide (files a) (files b) x y
