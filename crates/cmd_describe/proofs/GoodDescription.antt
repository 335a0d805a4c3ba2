-- `check` and `view` over good files do all that they are to do.
use Rattle.std.proofs.Common.{◌≡◌, ℕ, List}
use Rattle.wf_io.specs.Told.{File}
use Rattle.wf_stage.specs.Outcomes.{EndsInDone}
use Rattle.wf_inputs.specs.Inputs.{ViewStage}
use Rattle.wf_inputs.proofs.GoodFiles.{spec_goes_on, view_goes_on}
use Rattle.cmd_describe.specs.Words.{Command, Check, View}
use Rattle.cmd_describe.specs.Does.{IsChecked, IsViewWritten, Does}
use Rattle.cmd_describe.specs.Family.{CanDescribe}

pub good_description : (files : List ℕ → File) (c : Command) → CanDescribe files c → EndsInDone (Does files c)
good_description files (Check s) good e t h = (spec_goes_on (files s) good.0 good.1 (λ k. IsChecked k.core) e t h).0
good_description files (View s v) good e t h =
    (view_goes_on good.0.core (files v) good.1.1.0 good.1.1.1 (IsViewWritten good.0.core) e t
    (spec_goes_on (files s) good.0 good.1.0 (λ k. ViewStage k.core (files v) (IsViewWritten k.core)) e t h)).0
