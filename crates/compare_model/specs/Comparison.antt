-- What the comparison of a coarse view with a fine one comes to.
use Rattle.std.specs.Prelude.{◌≡◌, ℕ, List}
use Rattle.wf_model.specs.declared.numbers.ModNo.{ModNo}
use Rattle.wf_model.specs.declared.numbers.PortNo.{PortNo}
use Rattle.wf_model.specs.Grammar.{Grammar, Assignment}
use Rattle.wf_model.specs.View.{View}
use Rattle.wf_model.specs.declared.event.Event.{Event}
use Rattle.wf_model.specs.Reach.{Step}
use Rattle.compare_model.specs.declared.compared.Compared.{Compared}
use Rattle.compare_model.specs.declared.compared.Compared.TheVariants.{Denied, Extra, Exact}
use Rattle.compare_model.specs.Pairs.{ModulePair, IsDenied, IsAdded, DeniesNone, AddsNone, IsFirst}
use Rattle.compare_model.specs.Routes.{IsFirstShortestRoute}
use Rattle.compare_model.specs.RunAlong.{run_along, name_along}

-- a pair by the numbers that code has
abbrev pub pair_of : ModNo → PortNo → PortNo → ModulePair
pair_of m i o = record { module_no = m.0; input = i.0; output = o.0 }

-- the run along the first of the shortest routes to the module, and the instance to which it leads there
pub record IsShownBy (g : Grammar) (c : View) (m : ℕ) (instance : List ℕ) (run : List Event) : Type 0 where
  pub route : List Step
  pub shortest : IsFirstShortestRoute g c m route
  pub instance_is : instance ≡ name_along g route
  pub run_is : run ≡ run_along g route

-- The comparison of the view c with one that has the full assignment d: the first pair that c denies, with a run that shows it; else the first that it adds; else neither
abbrev pub IsCompared : Grammar → View → Assignment → Compared → Type 0
IsCompared g c d (Denied m i o instance run) = IsFirst (IsDenied g c d) (pair_of m i o) × IsShownBy g c m.0 instance run
IsCompared g c d (Extra m i o) = DeniesNone g c d × IsFirst (IsAdded g c d) (pair_of m i o)
IsCompared g c d Exact = DeniesNone g c d × AddsNone g c d
