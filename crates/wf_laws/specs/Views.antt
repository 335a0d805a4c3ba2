-- The laws of the default view, and of the full assignment.
use Rattle.std.specs.Prelude.{◌↔◌}
use Rattle.wf_model.specs.Grammar.{Grammar, Assignment}
use Rattle.wf_model.specs.WellFormed.{IsWellFormed}
use Rattle.wf_model.specs.Proper.{IsProper}
use Rattle.wf_model.specs.View.{View, IsDefaultView}
use Rattle.wf_model.specs.DefaultView.{default_view}
use Rattle.wf_model.specs.Finishing.{ExpandsComposites}
use Rattle.wf_model.specs.Safe.{IsSafe, IsFull, IsInduced}

-- the default view, as it is computed, is a default view in words
abbrev pub DefaultViewLaw : Type 0
DefaultViewLaw = (g : Grammar) → IsDefaultView g (default_view g)

-- the pairs that all expansions join are those that every production induces
abbrev pub FullLaw : Type 0
FullLaw = (g : Grammar) (u : View) (d : Assignment) → IsWellFormed g → IsProper g → ExpandsComposites g u → IsFull g u d ↔ IsInduced g u d

-- a safe view has a full assignment
abbrev pub SafeFullLaw : Type 0
SafeFullLaw = (g : Grammar) (u : View) → IsWellFormed g → IsProper g → ExpandsComposites g u → IsSafe g u → (d : Assignment) × IsFull g u d
