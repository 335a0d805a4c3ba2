-- A step or an ending of a place, read over a package.
use Rattle.std.specs.Prelude.{◌≡◌, ◌≢◌, ℕ, ◌+◌, ◌<◌, Bool, true, false, List, ◌∷◌, ◌++◌, length, replicate, Some}
use Rattle.wf_model.specs.Grammar.{Grammar, production_at, alternative_of, IsProductionOf}
use Rattle.wf_model.specs.Reach.{Step}
use Rattle.wf_model.specs.Linear.{IsStepOf}
use Rattle.wf_model.specs.Steps.{step_of}
use Rattle.bit_pack.specs.Gamma.{gamma}
use Rattle.package_model.specs.Translating.{Loops}
use Rattle.wf_translate.specs.declared.part.StepOrEnd.{StepOrEnd}
use Rattle.wf_translate.specs.declared.part.StepOrEnd.TheVariants.{Step as StepHeld, End as EndHeld}

-- the bits begin with those of a step that leaves k and is no loop step, and these are left
pub record BeginsByStep (g : Grammar) (loop : Loops) (k : ℕ) (bits : List Bool) (s : Step) (left : List Bool) : Type 0 where
  pub of_it : IsStepOf g k s
  pub leaves : loop k ≢ Some s
  pub is : bits ≡ true ∷ (gamma (alternative_of g s.production + 1) ++ (gamma (s.position + 1) ++ left))

-- the bits are those of an ending at k, and then zero bits, fewer than eight
pub record IsEndingBy (g : Grammar) (k : ℕ) (bits : List Bool) (production edge : ℕ) : Type 0 where
  pub of_it : IsProductionOf g production k
  pub in_range : edge < length (production_at g production).edges
  pub padding : ℕ
  pub few : padding < 8
  pub is : bits ≡ false ∷ (gamma (alternative_of g production + 1) ++ (gamma (edge + 1) ++ replicate padding false))

-- a step or an ending is read at k
abbrev pub IsPartRead : Grammar → Loops → ℕ → List Bool → StepOrEnd → List Bool → Type 0
IsPartRead g loop k bits (StepHeld s) left = BeginsByStep g loop k bits (step_of s) left
IsPartRead g loop k bits (EndHeld p e) left = IsEndingBy g k bits p.0 e.0

-- the bits are neither at k
pub record HasNoPart (g : Grammar) (loop : Loops) (k : ℕ) (bits : List Bool) : Type 0 where
  pub no_step : (s : Step) (left : List Bool) → BeginsByStep g loop k bits s left → ⊥
  pub no_ending : (p e : ℕ) → IsEndingBy g k bits p e → ⊥

-- the bits are the position of a step by the production p of k, which is no loop step, and what is left
pub record IsPositionRead (g : Grammar) (loop : Loops) (k p : ℕ) (bits : List Bool) (s : Step) (left : List Bool) : Type 0 where
  pub production : s.production ≡ p
  pub of_it : IsStepOf g k s
  pub leaves : loop k ≢ Some s
  pub is : bits ≡ gamma (s.position + 1) ++ left

-- the bits begin with no such position
abbrev pub HasNoPosition : Grammar → Loops → ℕ → ℕ → List Bool → Type 0
HasNoPosition g loop k p bits = (s : Step) (left : List Bool) → IsPositionRead g loop k p bits s left → ⊥

-- the bits are the code of n + 1, n being below this number, and then zero bits, fewer than eight
pub record IsLastNumber (count : ℕ) (bits : List Bool) (n : ℕ) : Type 0 where
  pub in_range : n < count
  pub padding : ℕ
  pub few : padding < 8
  pub is : bits ≡ gamma (n + 1) ++ replicate padding false

-- the bits are that for no number
abbrev pub HasNoLastNumber : ℕ → List Bool → Type 0
HasNoLastNumber count bits = (n : ℕ) → IsLastNumber count bits n → ⊥

-- a step or an ending of the module k
abbrev pub IsPartOf : Grammar → ℕ → StepOrEnd → Type 0
IsPartOf g k (StepHeld s) = IsStepOf g k (step_of s)
IsPartOf g k (EndHeld p e) = IsProductionOf g p.0 k
