-- A place that is read over a package step by step, and what is told of it in the package's grammar.
use Rattle.std.specs.Prelude.{◌≡◌, ◌≢◌, ◌⊎◌, ℕ, ◌+◌, ◌<◌, Bool, List, [], ◌∷◌, ◌++◌, map, length, Option, None}
use Rattle.wf_model.specs.Grammar.{Grammar, alternative_of, IsAtomic, IsComposite}
use Rattle.wf_model.specs.Reach.{Step, target_of, module_along}
use Rattle.wf_model.specs.Steps.{step_of}
use Rattle.label_model.specs.Continuing.{continuing}
use Rattle.label_model.specs.Labels.{PlaceStep, chain_bits}
use Rattle.label_model.specs.Places.{chain_at, steps_from, chain_from}
use Rattle.package_model.specs.Translating.{Loops, AreLoopSteps, StandsFor, GoesAlong}
use Rattle.wf_label.specs.declared.label.PlaceStep.{PlaceStep as PlaceStepHeld}
use Rattle.wf_label.specs.Values.{place_step_of}
use Rattle.wf_translate.specs.Readable.{ReadsPlace, ReadsOut, IsReadable}
use Rattle.wf_translate.specs.declared.part.StepOrEnd.{StepOrEnd}
use Rattle.wf_translate.specs.declared.part.StepOrEnd.TheVariants.{Step as StepHeld, End as EndHeld}
use Rattle.wf_translate.specs.declared.place.PlaceTurn.{PlaceTurn}
use Rattle.wf_translate.specs.declared.place.PlaceTurn.TheVariants.{Module, Ending, Outside}

-- steps of a place, as the definitions see them
abbrev pub steps_seen : List PlaceStepHeld → List PlaceStep
steps_seen = map place_step_of

-- From m, after c continuing steps, the steps lead to k with n continuing steps last. These steps of a place are told of them, and the others of what follows
pub record IsToldAlong (g : Grammar) (m c : ℕ) (a : List Step) (k n : ℕ) (added : List PlaceStep) : Type 0 where
  pub steps : (b : List Step) → steps_from g m c (a ++ b) ≡ added ++ steps_from g k n b
  pub chain : (b : List Step) → chain_from g m c (a ++ b) ≡ chain_from g k n b

-- of so many loop steps from m, all but those that are left lead to k, and are told
pub record IsWalked (g : Grammar) (loop : Loops) (m count : ℕ) (before after : List PlaceStep) (k left : ℕ) : Type 0 where
  pub round : List Step
  pub loops : AreLoopSteps g loop m round
  pub count_is : length round + left ≡ count
  pub to : module_along g m round ≡ k
  pub in_range : k < length g.modules
  pub goes_on : IsComposite g k → loop k ≢ None
  pub added : List PlaceStep
  pub told : IsToldAlong g m 0 round k 0 added
  pub written : after ≡ before ++ added

-- no further step is told one by one: none is left, or k is on a cycle, or k has no loop step
abbrev pub IsWalkEnd : Grammar → Loops → ℕ → ℕ → Type 0
IsWalkEnd g loop k left = (left ≡ 0) ⊎ ((continuing g k ≢ None) ⊎ (loop k ≡ None))

-- a chain number that may not be there leads from m to the composite module k, and is told
pub record IsChainTold (g : Grammar) (loop : Loops) (m : ℕ) (chain : Option ℕ) (before after : List PlaceStep) (k : ℕ) (last : Option ℕ) : Type 0 where
  pub round : List Step
  pub stands : StandsFor g loop m chain round
  pub to : module_along g m round ≡ k
  pub in_range : k < length g.modules
  pub composite : IsComposite g k
  pub count : ℕ
  pub added : List PlaceStep
  pub told : IsToldAlong g m 0 round k count added
  pub written : after ≡ before ++ added
  pub last_is : last ≡ chain_at g k count

-- some of the loop steps for which a chain number stands, or none where there is no chain number, lead from m to an atomic module
pub record StopsAlong (g : Grammar) (loop : Loops) (m : ℕ) (chain : Option ℕ) : Type 0 where
  pub round : List Step
  pub goes : GoesAlong g loop m chain round
  pub atomic : IsAtomic g (module_along g m round)

-- a chain number is read from the front of the bits if it is there, and is told
pub record IsChainRead (g : Grammar) (loop : Loops) (m : ℕ) (old new : List Bool) (before after : List PlaceStep) (k : ℕ) (last : Option ℕ) : Type 0 where
  pub chain : Option ℕ
  pub is : old ≡ chain_bits chain ++ new
  pub told : IsChainTold g loop m chain before after k last

-- a step of a place is read at m, and leads to k
pub record IsStepRead (g : Grammar) (loop : Loops) (m : ℕ) (old new : List Bool) (before after : List PlaceStep) (k : ℕ) : Type 0 where
  pub way : List Step
  pub to : module_along g m way ≡ k
  pub in_range : k < length g.modules
  pub added : List PlaceStep
  pub told : IsToldAlong g m 0 way k 0 added
  pub written : after ≡ before ++ added
  pub place : (a : List Step) (p e : ℕ) → ReadsPlace g loop k new a p e → ReadsPlace g loop m old (way ++ a) p e
  pub out : ReadsOut g loop k new → ReadsOut g loop m old
  pub back : IsReadable g loop m old → IsReadable g loop k new

-- an ending is read at m, behind which the bits end
pub record IsEndRead (g : Grammar) (loop : Loops) (m : ℕ) (old : List Bool) (before after : List PlaceStep) (last : Option ℕ) (al edge : ℕ) : Type 0 where
  pub way : List Step
  pub production : ℕ
  pub reads : ReadsPlace g loop m old way production edge
  pub to : ℕ
  pub count : ℕ
  pub added : List PlaceStep
  pub told : IsToldAlong g m 0 way to count added
  pub written : after ≡ before ++ added
  pub last_is : last ≡ chain_at g to count
  pub alternative_is : al ≡ alternative_of g production

-- what comes of reading at m: the module to which a step leads, an ending, or that an atomic module is reached. Of a step some bits are read
abbrev pub IsPlaceTurn : Grammar → Loops → ℕ → List Bool → List Bool → List PlaceStep → List PlaceStep → PlaceTurn → Type 0
IsPlaceTurn g loop m old new before after (Module k) = IsStepRead g loop m old new before after k.0 × (length new < length old)
IsPlaceTurn g loop m old new before after (Ending last a e) = IsEndRead g loop m old before after last a e.0
IsPlaceTurn g loop m old new before after Outside = ReadsOut g loop m old

-- A step behind a chain number is told, and leads to a module; of an ending nothing more is told
abbrev pub IsPartTold : Grammar → Option ℕ → StepOrEnd → List PlaceStep → List PlaceStep → PlaceTurn → Type 0
IsPartTold g last (StepHeld s) before after (Module k) =
    (k.0 ≡ target_of g (step_of s)) × (k.0 < length g.modules) ×
    (after ≡ before ++ record { chain = last; alternative = alternative_of g s.production.0; position = s.position.0 } ∷ [])
IsPartTold g last (StepHeld s) before after (Ending l a e) = ⊥
IsPartTold g last (StepHeld s) before after Outside = ⊥
IsPartTold g last (EndHeld p e) before after (Module k) = ⊥
IsPartTold g last (EndHeld p e) before after (Ending l a f) = (l ≡ last) × (a ≡ alternative_of g p.0) × (f ≡ e) × (after ≡ before)
IsPartTold g last (EndHeld p e) before after Outside = ⊥
