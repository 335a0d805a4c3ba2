-- The tests of the numbers of a witness.
use Rattle.std.specs.Prelude.{◌&&◌, ◌<◌, ℕ, Bool, false, List, get_or}
use Rattle.std.specs.List.{filter}
use Rattle.wf_model.specs.Lists.{numbers_from}
use Rattle.wf_model.specs.Grammar.{Grammar, inputs_of, outputs_of, IsProductionOf}
use Rattle.wf_model.specs.View.{expands}
use Rattle.wf_model.specs.Safe.{IsChosen}
use Rattle.wf_view.specs.Held.{HeldView}
use Rattle.wf_safe.specs.declared.witness.Witness.{Witness}
use Rattle.wf_safe.specs.Witness.{chosen_in}

-- by the flags of a view a module is seen and expanded, so that a production is to be chosen for it
abbrev pub is_seen_expanded : HeldView → ℕ → Bool
is_seen_expanded v m = get_or v.seen m false && expands v.core m

-- the modules below n for which a production is to be chosen
abbrev pub needing_below : HeldView → ℕ → List ℕ
needing_below v n = filter (is_seen_expanded v) (numbers_from 0 n)

-- each choice is a production of its module
abbrev pub AreProductions : Grammar → List (ℕ × ℕ) → Type 0
AreProductions g choice = (m p : ℕ) → IsChosen choice m p → IsProductionOf g p m

-- the numbers of a witness name what is there: its production is chosen for its module, the other is one of the module too, and the module has both ports
pub record HasNumbers (g : Grammar) (w : Witness) : Type 0 where
  pub one : IsChosen (chosen_in w.choice) w.«module».0 w.one.0
  pub other : IsProductionOf g w.other.0 w.«module».0
  pub input : w.input.0 < inputs_of g w.«module».0
  pub output : w.output.0 < outputs_of g w.«module».0
