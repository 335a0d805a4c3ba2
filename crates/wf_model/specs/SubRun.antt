-- The law of the run of one instance.
use Rattle.std.specs.Prelude.{◌≡◌, ℕ, Bool, List, [], ◌∷◌, filter, flat_map, bytes_eq}
use Rattle.wf_model.specs.Lists.{IsIn, some}
use Rattle.wf_model.specs.Grammar.{Grammar, Assignment}
use Rattle.wf_model.specs.View.{View}
use Rattle.wf_model.specs.declared.event.Event.{Event}
use Rattle.wf_model.specs.Run.{Instance, IsRun, IsFinished, seen_in, family, sub_run}
use Rattle.wf_model.specs.Links.{links_with, links_of}

-- an instance's name is among these
abbrev pub is_among : List (List ℕ) → Instance → Bool
is_among names i = some (bytes_eq i.name) names

-- The run of a seen instance is a run from its module. Its links are those of the whole run for the instance and those below it, in the same order, whatever pairs instances have that are not open. It is finished if the whole run is.
pub record IsOwnRun (g : Grammar) (u : View) (m : ℕ) (events : List Event) (i : Instance) : Type 0 where
  pub run : IsRun g i.module_no (sub_run i.name events)
  pub same_links : (leaf : Assignment) → links_with g u leaf i.module_no (sub_run i.name events) ≡ flat_map (links_of g u leaf events) (filter (is_among (family (i.name ∷ []) events)) (seen_in g u m events))
  pub finished : IsFinished g u m events → IsFinished g u i.module_no (sub_run i.name events)

-- the run of a seen instance of a run is such a run
abbrev pub SubRunLaw : Type 0
SubRunLaw = (g : Grammar) (u : View) (m : ℕ) (events : List Event) (i : Instance) → IsRun g m events → IsIn i (seen_in g u m events) → IsOwnRun g u m events i
