-- Labels of a grammar, read over a package of it: what their bits tell, step by step, and the code that this has in the package's grammar.
use Rattle.std.specs.Prelude.{◌≡◌, ◌≢◌, ℕ, ◌+◌, ◌^◌, ◌<◌, ◌≤◌, Bool, false, List, [], ◌∷◌, ◌++◌, length, replicate, Option, Some, None}
use Rattle.wf_model.specs.Grammar.{Grammar, production_at, inputs_of, outputs_of, alternative_of, IsProductionOf, IsAtomic}
use Rattle.wf_model.specs.Reach.{Step, target_of, module_along}
use Rattle.wf_model.specs.Linear.{IsStepOf}
use Rattle.bit_pack.specs.Bits.{bits_of}
use Rattle.label_model.specs.Labels.{PlaceStep, Place, Label, Input, Output, OfEdge, chain_bits, prefix_bits, label_bits}
use Rattle.label_model.specs.Places.{place_of}

-- which step each module has as its loop step, if it has one
abbrev pub Loops : Type 0
Loops = ℕ → Option Step

-- loop steps, one after another from the module m
abbrev pub AreLoopSteps : Grammar → Loops → ℕ → List Step → Type 0
AreLoopSteps g loop m [] = Unit {0}
AreLoopSteps g loop m (s ∷ a) = (loop m ≡ Some s) × AreLoopSteps g loop (target_of g s) a

-- A chain number at m stands for as many loop steps as it counts. It is there exactly if m has a loop step, and it is one below 2^24
abbrev pub StandsFor : Grammar → Loops → ℕ → Option ℕ → List Step → Type 0
StandsFor g loop m None a = (loop m ≡ None) × (a ≡ [])
StandsFor g loop m (Some c) a = (loop m ≢ None) × (c + 1 ≤ 2 ^ 24) × AreLoopSteps g loop m a × (length a ≡ c)

-- a step of a place, read over a package, leaves m by the steps a: by those of its chain number, and then by one that is no loop step
pub record LeavesBy (g : Grammar) (loop : Loops) (m : ℕ) (p : PlaceStep) (a : List Step) : Type 0 where
  pub round : List Step
  pub chain : StandsFor g loop m p.chain round
  pub step : Step
  pub of_it : IsStepOf g (module_along g m round) step
  pub alternative : alternative_of g step.production ≡ p.alternative
  pub position : step.position ≡ p.position
  pub leaves : loop (module_along g m round) ≢ Some step
  pub is : a ≡ round ++ step ∷ []

-- the steps of a place, read over a package, lead from m by the steps a
abbrev pub LeadBy : Grammar → Loops → ℕ → List PlaceStep → List Step → Type 0
LeadBy g loop m [] a = a ≡ []
LeadBy g loop m (p ∷ ps) a = (b : List Step) × (c : List Step) × LeavesBy g loop m p b × LeadBy g loop (module_along g m b) ps c × (a ≡ b ++ c)

-- a place at m, read over a package: its steps and its last chain number stand for steps, and there it names a production and an edge of it
pub record IsReadAs (g : Grammar) (loop : Loops) (m : ℕ) (p : Place) (a : List Step) (production : ℕ) : Type 0 where
  pub led : List Step
  pub lead : LeadBy g loop m p.steps led
  pub round : List Step
  pub chain : StandsFor g loop (module_along g m led) p.chain round
  pub is : a ≡ led ++ round
  pub of_it : IsProductionOf g production (module_along g m a)
  pub alternative : alternative_of g production ≡ p.alternative
  pub edge : p.edge < length (production_at g production).edges

-- what the bits of a label tell, read over a package, and the label of the package's grammar that tells it: a port of the root is the same port, and a place is that of the steps, the production and the edge as which it is read
abbrev pub IsTranslatedTo : Grammar → Loops → Label → Label → Type 0
IsTranslatedTo g loop (Input p) l = (p < inputs_of g g.start) × (l ≡ Input p)
IsTranslatedTo g loop (Output p) l = (p < outputs_of g g.start) × (l ≡ Output p)
IsTranslatedTo g loop (OfEdge p) l = (a : List Step) × (q : ℕ) × IsReadAs g loop g.start p a q × (l ≡ OfEdge (place_of g g.start a q p.edge))

-- the bits are read to their end, but for zero bits, fewer than eight
pub record ReadsInside (g : Grammar) (loop : Loops) (bits : List Bool) (l : Label) : Type 0 where
  pub read : Label
  pub translated : IsTranslatedTo g loop read l
  pub padding : ℕ
  pub few : padding < 8
  pub is : bits ≡ label_bits read ++ replicate padding false

-- at m a chain number is read if there is one, and no more of its loop steps are taken than it counts
abbrev pub GoesAlong : Grammar → Loops → ℕ → Option ℕ → List Step → Type 0
GoesAlong g loop m None a = a ≡ []
GoesAlong g loop m (Some c) a = (loop m ≢ None) × (c + 1 ≤ 2 ^ 24) × AreLoopSteps g loop m a × (length a ≤ c)

-- the reading of the bits comes to an atomic module, whatever bits follow: at the end of some steps of a place, or along the chain number that comes then
pub record ReadsOutside (g : Grammar) (loop : Loops) (bits : List Bool) : Type 0 where
  pub steps : List PlaceStep
  pub led : List Step
  pub lead : LeadBy g loop g.start steps led
  pub chain : Option ℕ
  pub round : List Step
  pub goes : GoesAlong g loop (module_along g g.start led) chain round
  pub atomic : IsAtomic g (module_along g g.start (led ++ round))
  pub rest : List Bool
  pub is : bits ≡ prefix_bits steps ++ (chain_bits chain ++ rest)

-- What bits come to: to the label of a place or of a root port of the package's grammar, to what it does not show, or to neither
pub data Translation : Type 0 where
  Inside : (label : Label) → Translation
  Outside : Translation
  Malformed : Translation

-- the translation of bits over a package
abbrev pub IsTranslation : Grammar → Loops → List Bool → Translation → Type 0
IsTranslation g loop bits (Inside l) = ReadsInside g loop bits l
IsTranslation g loop bits Outside = ReadsOutside g loop bits
IsTranslation g loop bits Malformed = ((l : Label) → ReadsInside g loop bits l → ⊥) × (ReadsOutside g loop bits → ⊥)

-- the translation of bytes
abbrev pub TranslatesTo : Grammar → Loops → List ℕ → Translation → Type 0
TranslatesTo g loop bytes t = IsTranslation g loop (bits_of bytes) t
