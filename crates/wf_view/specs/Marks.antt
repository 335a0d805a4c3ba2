-- Flags of the modules that a view expands.
use Rattle.std.specs.Prelude.{◌≡◌, ℕ, ◌<◌, Bool, false, List, length, get_or, Option}
use Rattle.wf_model.specs.declared.parts.ViewParts.{ViewParts}
use Rattle.wf_model.specs.Grammar.{Grammar}
use Rattle.wf_view.specs.Viewing.{is_among}

-- a flag for each module, that is set where the module is among those that a list names; where there is no list, where it is composite
pub record AreMarksOf (g : Grammar) (expand : Option (List (List ℕ))) (marks : List Bool) : Type 0 where
  pub one_each : length marks ≡ length g.modules
  pub each : (m : ℕ) → m < length g.modules → get_or marks m false ≡ is_among g expand m

-- a flag for each module, that is set where parts of a view expand it
abbrev pub AreMarks : Grammar → ViewParts → List Bool → Type 0
AreMarks g parts marks = AreMarksOf g parts.expand marks
