-- What is left to try of an event that expands an instance.
use Rattle.std.specs.Prelude.{◌≡◌, ℕ, ◌+◌, ◌≤◌, List, length}
use Rattle.wf_model.specs.declared.event.Event.TheVariants.{Expand}
use Rattle.wf_model.specs.Grammar.{Grammar}
use Rattle.wf_model.specs.Faults.{fault_of}
use Rattle.run_faults.specs.Standing.{Fits}
use Rattle.run_faults.specs.NewNames.{twice_fault}
use Rattle.wf_flat.specs.Table.{Table, names_in, events_of}

-- production p has a position for each of these names, there is room for as many instances, and the event that expands the instance of a name so is refused for no more than a name that is taken
pub record CanOpen (g : Grammar) (t : Table) (name : List ℕ) (p : ℕ) (names : List (List ℕ)) : Type 0 where
  pub fits : Fits g p names
  pub room : length t.instances + length names ≤ t.most
  pub left : fault_of g t.most (events_of t) (Expand name p names) ≡ twice_fault (names_in t.instances) names
