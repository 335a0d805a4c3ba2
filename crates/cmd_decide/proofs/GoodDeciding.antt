-- `decide` over good files and of labels does all that it is to do.
use Rattle.std.proofs.Common.{◌≡◌, ℕ, List}
use Rattle.wf_model.specs.Grammar.{Grammar}
use Rattle.wf_model.specs.View.{View}
use Rattle.wf_io.specs.Told.{File}
use Rattle.label_model.specs.Reading.{IsLabelBytes}
use Rattle.wf_stage.specs.Outcomes.{EndsInDone}
use Rattle.wf_inputs.specs.Inputs.{ViewStage}
use Rattle.wf_inputs.proofs.GoodFiles.{spec_goes_on, view_goes_on}
use Rattle.cmd_decide.specs.Words.{Command, Decide}
use Rattle.cmd_decide.specs.Decided.{DecidesLabels, first_malformed, second_malformed, decided}
use Rattle.cmd_decide.specs.Does.{Does}
use Rattle.cmd_decide.specs.Family.{CanDecide}

-- two labels are decided
labels_decided : (g : Grammar) (u : View) (a b : List ℕ) → IsLabelBytes g a → IsLabelBytes g b → EndsInDone (DecidesLabels g u a b)
labels_decided g u a b first second e t (first_malformed n p is) = absurd (n first)
labels_decided g u a b first second e t (second_malformed l n p is) = absurd (n second)
labels_decided g u a b first second e t (decided x y hx hy v w p is) = p

pub good_deciding : (files : List ℕ → File) (c : Command) → CanDecide files c → EndsInDone (Does files c)
good_deciding files (Decide s v x y) good e t h =
    let g = good.0.core in
    labels_decided g good.1.1.0 x y good.2 good.3 e t
    (view_goes_on g (files v) good.1.1.0 good.1.1.1 (λ w. DecidesLabels g w x y) e t
    (spec_goes_on (files s) good.0 good.1.0 (λ k. ViewStage k.core (files v) (λ w. DecidesLabels k.core w x y)) e t h))
