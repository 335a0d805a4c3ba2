-- Laws of finished runs, of views that expand every composite module, and of events that open nothing.
use Rattle.std.specs.Prelude.{◌≡◌, ◌≢◌, ℕ, List, [], ◌∷◌, ◌++◌}
use Rattle.wf_model.specs.Grammar.{Grammar}
use Rattle.wf_model.specs.View.{View}
use Rattle.wf_model.specs.declared.event.Event.{Event}
use Rattle.wf_model.specs.declared.event.Event.TheVariants.{Expand}
use Rattle.wf_model.specs.Run.{made, seen_in, IsRun, IsFinished}
use Rattle.wf_model.specs.Finishing.{ExpandsAll, IsFinishing}
use Rattle.wf_model.specs.Idle.{IsIdle, ShowsTheSame}

-- under a view that expands every composite module, the instances of a run are those that are seen, in the same order
abbrev pub AllSeenLaw : Type 0
AllSeenLaw = (g : Grammar) (u : View) → ExpandsAll g u → (m : ℕ) (events : List Event) → IsRun g m events → seen_in g u m events ≡ made g m events

-- under such a view a finished run that has its start event has no finishing but itself
abbrev pub NoOtherFinishingLaw : Type 0
NoOtherFinishingLaw =
    (g : Grammar) (u : View) → ExpandsAll g u → (m : ℕ) (events more : List Event) → events ≢ [] → IsFinished g u m events → IsFinishing g u m events more → more ≡ []

-- an event that expands an instance which is not seen, or whose module the view does not expand, changes nothing that the view shows
abbrev pub IdleLaw : Type 0
IdleLaw =
    (g : Grammar) (u : View) (m : ℕ) (events : List Event) (i : List ℕ) (p : ℕ) (names : List (List ℕ)) → IsIdle g u m events i → ShowsTheSame g u m events (events ++ Expand i p names ∷ [])

-- each finishing of a finished run shows what the run shows
abbrev pub FinishedLaw : Type 0
FinishedLaw =
    (g : Grammar) (u : View) (m : ℕ) (events more : List Event) → events ≢ [] → IsFinished g u m events → IsFinishing g u m events more → ShowsTheSame g u m events (events ++ more)
