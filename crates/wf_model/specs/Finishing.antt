-- Each run can be finished.
use Rattle.std.specs.Prelude.{ℕ, IsTrue, List, ◌++◌}
use Rattle.wf_model.specs.Grammar.{Grammar, IsComposite}
use Rattle.wf_model.specs.Proper.{IsProper}
use Rattle.wf_model.specs.View.{View, expands}
use Rattle.wf_model.specs.declared.event.Event.{Event}
use Rattle.wf_model.specs.Run.{IsRun, IsFinished}

-- the view expands composite modules only
abbrev pub ExpandsComposites : Grammar → View → Type 0
ExpandsComposites g u = (m : ℕ) → IsTrue (expands u m) → IsComposite g m

-- the view expands every composite module
abbrev pub ExpandsAll : Grammar → View → Type 0
ExpandsAll g u = (m : ℕ) → IsComposite g m → IsTrue (expands u m)

-- a finishing of a run: a finished run of which it is a prefix
pub record IsFinishing (g : Grammar) (u : View) (m : ℕ) (events more : List Event) : Type 0 where
  pub run : IsRun g m (events ++ more)
  pub finished : IsFinished g u m (events ++ more)

-- each run of a proper grammar has a finishing
abbrev pub FinishingLaw : Type 0
FinishingLaw = (g : Grammar) (u : View) → IsProper g → ExpandsComposites g u → (m : ℕ) (events : List Event) → IsRun g m events → (more : List Event) × IsFinishing g u m events more
