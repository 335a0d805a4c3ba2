-- What an answer to two names says, by the entries of a label file and the definitions of runs and views alone.
use Rattle.std.specs.Prelude.{◌⊎◌, ℕ, List}
use Rattle.wf_model.specs.Grammar.{Grammar}
use Rattle.wf_model.specs.View.{View}
use Rattle.label_model.specs.Labels.{Label}
use Rattle.label_model.specs.Files.{Entry}
use Rattle.verdict_model.specs.Verdicts.{IsHidden, AreShown, AreClashing, AlwaysDepends, NeverDepends}
use Rattle.wf_query.specs.declared.answers.Answer.{Answer}
use Rattle.wf_query.specs.declared.answers.Answer.TheVariants.{Unknown, Hidden, Clash, Yes, No}
use Rattle.wf_query.specs.Answers.{HasEntry, LacksEntry}

-- two names have entries, and this holds of the labels of the two
pub record HoldsOfLabels (g : Grammar) (entries : List Entry) (first second : List ℕ) (Fact : Label → Label → Type 0) : Type 0 where
  pub x : Label
  pub y : Label
  pub first_entry : HasEntry g entries first x
  pub second_entry : HasEntry g entries second y
  pub fact : Fact x y

-- two labels are shown by the view, and do not clash
abbrev pub AreFit : Grammar → View → Label → Label → Type 0
AreFit g u x y = AreShown g u x y × (AreClashing g x y → ⊥)

-- Unknown: a name has no entry. Hidden: the view hides the item of one of the labels. Clash: no run has both labels. Yes: in each finishing of each run that has both, the second item depends on the first. No: in none it does
abbrev pub Says : Grammar → View → List Entry → List ℕ → List ℕ → Answer → Type 0
Says g u entries first second Unknown = LacksEntry entries first second
Says g u entries first second Hidden = HoldsOfLabels g entries first second (λ x y. IsHidden g u x ⊎ IsHidden g u y)
Says g u entries first second Clash = HoldsOfLabels g entries first second (λ x y. AreShown g u x y × AreClashing g x y)
Says g u entries first second Yes = HoldsOfLabels g entries first second (λ x y. AreFit g u x y × AlwaysDepends g u x y)
Says g u entries first second No = HoldsOfLabels g entries first second (λ x y. AreFit g u x y × NeverDepends g u x y)
