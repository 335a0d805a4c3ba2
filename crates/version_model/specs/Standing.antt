-- One grammar stands in another: all that it shows under a view is there too, perhaps by other numbers.
use Rattle.std.specs.Prelude.{◌≡◌, ◌↔◌, ℕ, ◌<◌, false, IsTrue, List, map, length}
use Rattle.wf_model.specs.Grammar.{Grammar, Assignment, inputs_of, outputs_of, head_of, body_of}
use Rattle.wf_model.specs.View.{View, expands, shows, IsSeenModule}
use Rattle.wf_model.specs.Links.{wiring}
use Rattle.wf_model.specs.Proper.{IsProper}
use Rattle.wf_model.specs.Safe.{IsInduced}
use Rattle.wf_model.specs.Finishing.{ExpandsComposites}
use Rattle.wf_model.specs.Reach.{Step, module_along, Reaches}
use Rattle.wf_model.specs.Routes.{IsRoute, Agree}
use Rattle.wf_model.specs.OpenRoutes.{IsOpenRoute}

-- the production q of h is the production p of g, with its modules renumbered
pub record IsSameProduction (g : Grammar) (p : ℕ) (h : Grammar) (q : ℕ) (to : ℕ → ℕ) : Type 0 where
  pub in_range : q < length h.productions
  pub head : head_of h q ≡ to (head_of g p)
  pub body : body_of h q ≡ map to (body_of g p)
  pub wired : wiring h q ≡ wiring g p

-- The second grammar has the start module of the first. Each module that the first shows has there as many ports, is expanded there or not as here, and if not has the same pairs; and the productions of those that are expanded are there. Its modules and productions may have other numbers
pub record StandsIn (g : Grammar) (u : View) (h : Grammar) (w : View) (to by : ℕ → ℕ) : Type 0 where
  pub start : h.start ≡ to g.start
  pub ins : (m : ℕ) → IsSeenModule g u m → inputs_of h (to m) ≡ inputs_of g m
  pub outs : (m : ℕ) → IsSeenModule g u m → outputs_of h (to m) ≡ outputs_of g m
  pub expanded : (m : ℕ) → IsSeenModule g u m → expands w (to m) ≡ expands u m
  pub shown : (m : ℕ) → IsSeenModule g u m → expands u m ≡ false → (i o : ℕ) → i < inputs_of g m → o < outputs_of g m → shows w (to m) i o ≡ shows u m i o
  pub productions : (p : ℕ) → p < length g.productions → IsSeenModule g u (head_of g p) → IsTrue (expands u (head_of g p)) → IsSameProduction g p h (by p) to

-- a step, its production renumbered
abbrev pub renumbered_step : (ℕ → ℕ) → Step → Step
renumbered_step by s = record { production = by s.production; position = s.position }

-- steps, their productions renumbered
abbrev pub renumbered : (ℕ → ℕ) → List Step → List Step
renumbered by steps = map (renumbered_step by) steps

-- the same pairs are assigned to what the first grammar shows, and the same is reached along its open routes
pub record ReachTheSame (g : Grammar) (u : View) (d : Assignment) (h : Grammar) (e : Assignment) (to by : ℕ → ℕ) : Type 0 where
  pub pairs : (m : ℕ) → IsSeenModule g u m → (i o : ℕ) → i < inputs_of g m → o < outputs_of g m → e (to m) i o ≡ d m i o
  pub reaches : (a b : List Step) → IsOpenRoute g u g.start a → IsOpenRoute g u g.start b → Agree a b →
      (i o : ℕ) → i < inputs_of g (module_along g g.start a) → o < outputs_of g (module_along g g.start b) → Reaches g d g.start a b i o ↔ Reaches h e h.start (renumbered by a) (renumbered by b) i o

-- what is shown decides: so it is with the pairs that the productions of the one induce, and those that the productions of the other do
abbrev pub StandingLaw : Type 0
StandingLaw =
    (g : Grammar) (u : View) (h : Grammar) (w : View) (to by : ℕ → ℕ) → IsProper g → ExpandsComposites g u → StandsIn g u h w to by →
    (d e : Assignment) → IsInduced g u d → IsInduced h w e → ReachTheSame g u d h e to by

-- and a route of the first is open in it exactly if it is open in the second
abbrev pub StandingRouteLaw : Type 0
StandingRouteLaw =
    (g : Grammar) (u : View) (h : Grammar) (w : View) (to by : ℕ → ℕ) → StandsIn g u h w to by → (a : List Step) → IsRoute g g.start a → IsOpenRoute g u g.start a ↔ IsOpenRoute h w h.start (renumbered by a)

-- and what its productions induce, the productions of the first induce
abbrev pub StandingInducedLaw : Type 0
StandingInducedLaw =
    (g : Grammar) (u : View) (h : Grammar) (w : View) (to by : ℕ → ℕ) → StandsIn g u h w to by → (e : Assignment) → IsInduced h w e → IsInduced g u (λ m. e (to m))
