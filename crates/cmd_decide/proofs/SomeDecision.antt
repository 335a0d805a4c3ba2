-- `decide` has an outcome.
use Rattle.std.proofs.Common.{ℕ, List, [], ◌++◌, None, refl, inl, inr}
use Rattle.std.specs.Prelude.{codes}
use Rattle.wf_model.specs.Grammar.{Grammar}
use Rattle.wf_model.specs.WellFormed.{IsWellFormed}
use Rattle.wf_model.specs.Proper.{IsProper}
use Rattle.wf_model.specs.View.{View as ViewOf}
use Rattle.wf_model.specs.Safe.{IsSafe}
use Rattle.wf_model.specs.Finishing.{ExpandsComposites}
use Rattle.wf_model.proofs.Deciding.{Either}
use Rattle.label_model.specs.Reading.{IsLabelBytes}
use Rattle.label_model.proofs.LabelOrNot.{label_either}
use Rattle.verdict_model.proofs.SomeVerdict.{some_verdict}
use Rattle.wf_io.specs.Told.{File}
use Rattle.wf_message.specs.Endings.{Done, Refused}
use Rattle.wf_stage.specs.Outcomes.{HasOutcome}
use Rattle.wf_inputs.proofs.SomeInputs.{some_spec_stage, some_view_stage}
use Rattle.wf_inputs.proofs.ToldGrammars.{told_formed, told_proper}
use Rattle.wf_inputs.proofs.ViewComposites.{told_composites}
use Rattle.cmd_decide.specs.Words.{Command, Decide}
use Rattle.label_words.specs.Verdicts.{verdict_text}
use Rattle.cmd_decide.specs.Decided.{DecidesLabels, first_malformed, second_malformed, decided}
use Rattle.cmd_decide.specs.Does.{Decides, Does}

-- two texts have an outcome under a safe view
some_decision : (g : Grammar) (u : ViewOf) → IsWellFormed g → IsProper g → ExpandsComposites g u → IsSafe g u → (first second : List ℕ) → HasOutcome (DecidesLabels g u first second)
some_decision g u formed proper composites safe first second = by (label_either g first) (label_either g second)
  where
    by : Either (IsLabelBytes g first) → Either (IsLabelBytes g second) → HasOutcome (DecidesLabels g u first second)
    by (inr none) y = (Refused (codes "label 1") None (codes "Malformed"), [], first_malformed none refl refl)
    by (inl x) (inr none) = (Refused (codes "label 2") None (codes "Malformed"), [], second_malformed x none refl refl)
    by (inl x) (inl y) =
        let v = some_verdict g u formed proper composites safe x.0 y.0 x.1 y.1 in
        (Done, verdict_text v.0 ++ codes "\n", decided x.0 y.0 (x.1, x.2) (y.1, y.2) v.0 v.1 refl refl)

some_decide : (spec view : File) (first second : List ℕ) → HasOutcome (Decides spec view first second)
some_decide spec view first second = some_spec_stage spec _ (λ h told. some_view_stage spec.bytes h told view _ (λ u shown.
    some_decision h.core u (told_formed spec.bytes h told) (told_proper spec.bytes h told) (told_composites h.core (told_formed spec.bytes h told) view.bytes u shown) shown.safe first second))

pub some_deciding : (files : List ℕ → File) (c : Command) → HasOutcome (Does files c)
some_deciding files (Decide a b x y) = some_decide (files a) (files b) x y
