-- What the view that parts describe expands and shows, in words.
use Rattle.std.specs.Prelude.{◌≡◌, ◌↔◌, ◌<◌, ℕ, false, IsTrue, List, length, Some, None}
use Rattle.wf_model.specs.declared.parts.ViewParts.{ViewParts}
use Rattle.wf_model.specs.declared.parts.DepsPart.{DepsPart}
use Rattle.wf_model.specs.declared.parts.PairPart.{PairPart}
use Rattle.wf_model.specs.Lists.{IsIn}
use Rattle.wf_model.specs.Grammar.{Grammar, IsComposite, inputs_of, outputs_of}
use Rattle.wf_model.specs.WellFormed.{IsWellFormed}
use Rattle.wf_model.specs.View.{View, expands, shows, IsViewOf, IsShownByDefault}
use Rattle.wf_view.specs.Viewing.{name_of, input_name, output_name, view_of}
use Rattle.wf_view.specs.Rules.{IsViewed, deps_names}

-- A pair of a module is shown exactly where the deps part about the module names it
abbrev pub ShowsPart : Grammar → View → DepsPart → Type 0
ShowsPart g u d =
    (m i o : ℕ) → m < length g.modules → name_of g m ≡ d.«module» → i < inputs_of g m → o < outputs_of g m →
    IsTrue (shows u m i o) ↔ ((e : PairPart) × IsIn e d.pairs × (e.input ≡ input_name g m i) × (e.output ≡ output_name g m o))

-- The view that parts describe. It is a view of the grammar. It expands the modules that are named, and all composite ones where there is no list. A module that no deps part is about shows its pairs by default, and any other those of its part
pub record IsDescribed (g : Grammar) (parts : ViewParts) (u : View) : Type 0 where
  pub is_view : IsViewOf g u
  pub all : parts.expand ≡ None → (m : ℕ) → IsTrue (expands u m) ↔ IsComposite g m
  pub named : (names : List (List ℕ)) → parts.expand ≡ Some names → (m : ℕ) → m < length g.modules → IsTrue (expands u m) ↔ IsIn (name_of g m) names
  pub by_default : (m : ℕ) → m < length g.modules → expands u m ≡ false → ¬ IsIn (name_of g m) (deps_names parts.deps) → IsShownByDefault g u m
  pub given : (d : DepsPart) → IsIn d parts.deps → ShowsPart g u d

-- so is the view of parts that keep the rules
abbrev pub DescribedLaw : Type 0
DescribedLaw = (g : Grammar) (parts : ViewParts) → IsWellFormed g → IsViewed g parts → IsDescribed g parts (view_of g parts)
