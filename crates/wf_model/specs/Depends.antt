-- Dependency between visible items, told by their addresses and the pairs of modules alone.
use Rattle.std.specs.Prelude.{◌≡◌, ◌≢◌, ℕ, ◌<◌, ◌↔◌, List, [], Some}
use Rattle.wf_model.specs.Lists.{IsIn}
use Rattle.wf_model.specs.Grammar.{Grammar, Assignment, inputs_of, outputs_of}
use Rattle.wf_model.specs.WellFormed.{IsWellFormed}
use Rattle.wf_model.specs.View.{View}
use Rattle.wf_model.specs.declared.event.Event.{Event}
use Rattle.wf_model.specs.Run.{IsRun, root_of}
use Rattle.wf_model.specs.Links.{Port, input, output}
use Rattle.wf_model.specs.Safe.{IsExpansion, IsInduced}
use Rattle.wf_model.specs.Reach.{Step, module_along, IsAlong, Reaches}
use Rattle.wf_model.specs.Items.{Item, items, IsVisible, Depends}

-- an item is consumed at input i of the instance at this address
pub record IsConsumedAt (g : Grammar) (u : View) (m : ℕ) (events : List Event) (t : Item) (a : List Step) (i : ℕ) : Type 0 where
  pub instance : List ℕ
  pub along : IsAlong g u events (root_of events) a instance
  pub port : t.consumed ≡ Some (input instance i)
  pub in_range : i < inputs_of g (module_along g m a)

-- an item is produced at output o of the instance at this address
pub record IsProducedAt (g : Grammar) (u : View) (m : ℕ) (events : List Event) (t : Item) (a : List Step) (o : ℕ) : Type 0 where
  pub instance : List ℕ
  pub along : IsAlong g u events (root_of events) a instance
  pub port : t.produced ≡ Some (output instance o)
  pub in_range : o < outputs_of g (module_along g m a)

-- each visible item that is consumed or produced is so at an address
abbrev pub ItemsLaw : Type 0
ItemsLaw =
    (g : Grammar) (u : View) → IsWellFormed g → (m : ℕ) (events : List Event) → IsRun g m events → events ≢ [] → (t : Item) → IsIn t (items g m events) → IsVisible g u m events t →
    record {
      consumed : (x : Port (List ℕ)) → t.consumed ≡ Some x → (a : List Step) × (i : ℕ) × IsConsumedAt g u m events t a i;
      produced : (x : Port (List ℕ)) → t.produced ≡ Some x → (a : List Step) × (o : ℕ) × IsProducedAt g u m events t a o;
    }

-- in a finished run an item depends on another exactly if their addresses and the assigned pairs tell so
abbrev pub DependsLaw : Type 0
DependsLaw =
    (g : Grammar) (u : View) (d : Assignment) → IsWellFormed g → IsInduced g u d → (events : List Event) → IsExpansion g u g.start events →
    (s t : Item) (a b : List Step) (i o : ℕ) → IsConsumedAt g u g.start events s a i → IsProducedAt g u g.start events t b o →
    Depends g u events s t ↔ Reaches g d g.start a b i o
