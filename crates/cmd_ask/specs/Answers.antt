-- The answers to queries on a run under a view.
use Rattle.std.specs.Prelude.{◌≡◌, ◌⊎◌, ℕ, Bool, true, false, List, ◌++◌, Option, Some, None, codes}
use Rattle.wf_model.specs.declared.event.Event.{Event}
use Rattle.wf_model.specs.Grammar.{Grammar}
use Rattle.wf_model.specs.View.{View}
use Rattle.wf_model.specs.Items.{Item, items, Depends}
use Rattle.wf_model.specs.Finishing.{IsFinishing}
use Rattle.wf_flat.specs.Item.{item_named}
use Rattle.wf_flat.specs.Shown.{are_visible}

-- the answer for two visible items: whether the second depends on the first in the finished run f
abbrev pub IsVerdictOfRun : Grammar → View → List Event → Item → Item → List ℕ → Type 0
IsVerdictOfRun g u f a b line = ((line ≡ codes "yes") × Depends g u f a b) ⊎ ((line ≡ codes "no") × ¬ Depends g u f a b)

-- the answer for two items, by whether both are visible
abbrev pub IsShown : Bool → Grammar → View → List Event → Item → Item → List ℕ → Type 0
IsShown true g u f a b line = IsVerdictOfRun g u f a b line
IsShown false g u f a b line = line ≡ codes "hidden"

-- The answer for two items of the run e that may not be there, where f is a finishing of e
abbrev pub IsAnswerFor : Grammar → View → List Event → List Event → Option Item → Option Item → List ℕ → Type 0
IsAnswerFor g u e f None b line = line ≡ codes "unknown"
IsAnswerFor g u e f (Some a) None line = line ≡ codes "unknown"
IsAnswerFor g u e f (Some a) (Some b) line = IsShown (are_visible g u e a b) g u f a b line

-- The answer to a query on a run e is one and the same for every finishing of it
abbrev pub IsAnswerOfRun : Grammar → View → List Event → List ℕ → List ℕ → List ℕ → Type 0
IsAnswerOfRun g u e first second line =
    (more : List Event) → IsFinishing g u g.start e more →
    IsAnswerFor g u e (e ++ more) (item_named (items g g.start e) first) (item_named (items g g.start e) second) line
