-- What is left of a place while it is read over a package from the front, at a module.
use Rattle.std.specs.Prelude.{◌≡◌, ℕ, ◌<◌, ◌⊎◌, Bool, false, List, ◌++◌, flat_map, replicate, Option}
use Rattle.wf_model.specs.Grammar.{Grammar, IsAtomic}
use Rattle.wf_model.specs.Reach.{Step, module_along}
use Rattle.label_model.specs.Labels.{PlaceStep, Place, chain_bits, step_bits, ending_bits}
use Rattle.package_model.specs.Translating.{Loops, LeadBy, IsReadAs, GoesAlong}

-- the bits are a place at m, read as these steps, this production and this edge, and then zero bits, fewer than eight
pub record ReadsPlace (g : Grammar) (loop : Loops) (m : ℕ) (bits : List Bool) (a : List Step) (production edge : ℕ) : Type 0 where
  pub place : Place
  pub read : IsReadAs g loop m place a production
  pub edge_is : place.edge ≡ edge
  pub padding : ℕ
  pub few : padding < 8
  pub is : bits ≡ flat_map step_bits place.steps ++ (ending_bits place.chain place.alternative place.edge ++ replicate padding false)

-- the reading of the bits at m comes to an atomic module: at the end of some steps, or along the chain number that comes then
pub record ReadsOut (g : Grammar) (loop : Loops) (m : ℕ) (bits : List Bool) : Type 0 where
  pub steps : List PlaceStep
  pub led : List Step
  pub lead : LeadBy g loop m steps led
  pub chain : Option ℕ
  pub round : List Step
  pub goes : GoesAlong g loop (module_along g m led) chain round
  pub atomic : IsAtomic g (module_along g m (led ++ round))
  pub rest : List Bool
  pub is : bits ≡ flat_map step_bits steps ++ (chain_bits chain ++ rest)

-- the bits tell something at m
abbrev pub IsReadable : Grammar → Loops → ℕ → List Bool → Type 0
IsReadable g loop m bits = ((a : List Step) × (p : ℕ) × (e : ℕ) × ReadsPlace g loop m bits a p e) ⊎ ReadsOut g loop m bits
