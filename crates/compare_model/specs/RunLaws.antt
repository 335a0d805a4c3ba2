-- Laws of the run along a list of steps.
use Rattle.std.specs.Prelude.{ℕ, ◌+◌, ◌*◌, ◌<◌, ◌≤◌, ◌^◌, List, length}
use Rattle.wf_model.specs.Lists.{IsIn}
use Rattle.wf_model.specs.Grammar.{Grammar}
use Rattle.wf_model.specs.WellFormed.{IsWellFormed}
use Rattle.wf_model.specs.View.{View}
use Rattle.wf_model.specs.Run.{IsAccepted, seen_in, root_of}
use Rattle.wf_model.specs.Reach.{Step, module_along}
use Rattle.wf_model.specs.Routes.{IsAddress, IsRoute}
use Rattle.wf_model.specs.OpenRoutes.{IsOpenRoute}
use Rattle.compare_model.specs.RunAlong.{run_along, name_along}

-- the run along the steps is accepted; they lead in it from the root to an instance of the module to which they lead, and each view along which they are an open route sees the instance
pub record IsRunTo (g : Grammar) (limit : ℕ) (a : List Step) : Type 0 where
  pub accepted : IsAccepted g limit (run_along g a)
  pub address : IsAddress (run_along g a) (root_of (run_along g a)) a (name_along g a)
  pub seen : (u : View) → IsOpenRoute g u g.start a → IsIn (record { name = name_along g a; module_no = module_along g g.start a }) (seen_in g u g.start (run_along g a))

-- so it is for each route from the start module, where the limit has room for 64 instances a step
abbrev pub RunAlongLaw : Type 0
RunAlongLaw = (g : Grammar) → IsWellFormed g → (limit : ℕ) (a : List Step) → IsRoute g g.start a → 1 + 64 * length a ≤ limit → limit < 2 ^ 64 → IsRunTo g limit a
