-- `export`, `gen` and `drill` over good files do all that they are to do.
use Rattle.std.proofs.Common.{◌≡◌, ℕ, List, []}
use Rattle.wf_io.specs.Told.{File}
use Rattle.wf_io.specs.Lines.{lines_in}
use Rattle.wf_stage.specs.Outcomes.{EndsInDone}
use Rattle.wf_inputs.specs.Inputs.{instance_most, ViewStage}
use Rattle.wf_inputs.proofs.GoodFiles.{spec_goes_on, view_goes_on}
use Rattle.wf_inputs.proofs.OneRun.{events_goes_on}
use Rattle.cmd_make.specs.Words.{Command, Export, Gen, Drill}
use Rattle.cmd_make.specs.DrillText.{IsDrilled}
use Rattle.cmd_make.specs.Does.{ExportsView, ExportsRun, Does}
use Rattle.cmd_make.specs.Family.{CanMake}

pub good_making : (files : List ℕ → File) (c : Command) → CanMake files c → EndsInDone (Does files c)
good_making files (Export s v x) good e t h =
    let g = good.0.core in
    let u = good.1.1.0 in
    (events_goes_on g instance_most (lines_in (files x)) (λ es. []) (ExportsRun g u) good.2.0 good.2.1 e t
    (view_goes_on g (files v) u good.1.1.1 (λ w. ExportsView g w (files x)) e t
    (spec_goes_on (files s) good.0 good.1.0 (λ k. ViewStage k.core (files v) (λ w. ExportsView k.core w (files x))) e t h))).0
good_making files (Gen s n seed) good e t h = (spec_goes_on (files s) good.0 good.1 _ e t h).0
good_making files (Drill s v n seed) good e t h =
    let g = good.0.core in
    (view_goes_on g (files v) good.1.1.0 good.1.1.1 (λ w. IsDrilled g w n seed) e t
    (spec_goes_on (files s) good.0 good.1.0 (λ k. ViewStage k.core (files v) (λ w. IsDrilled k.core w n seed)) e t h)).0
