-- Bytes that are a label, and what is left of a label while it is read from the front.
use Rattle.std.specs.Prelude.{◌≡◌, ◌≢◌, ℕ, ◌+◌, ◌<◌, ◌⊎◌, Bool, true, false, List, [], ◌∷◌, ◌++◌, length, replicate, flat_map, Option, Some}
use Rattle.wf_model.specs.Grammar.{Grammar, production_at, inputs_of, outputs_of, alternative_of, IsProductionOf}
use Rattle.wf_model.specs.Reach.{Step, target_of}
use Rattle.wf_model.specs.Linear.{IsStepOf}
use Rattle.bit_pack.specs.Bits.{Holds}
use Rattle.bit_pack.specs.Gamma.{gamma}
use Rattle.label_model.specs.Continuing.{continuing}
use Rattle.label_model.specs.Labels.{Place, Label, chain_bits, step_bits, ending_bits, label_bits, IsChain, IsPlace, IsLabel}

-- bytes that are a label of the grammar: its bits and then zero bits, fewer than eight
abbrev pub IsLabelBytes : Grammar → List ℕ → Type 0
IsLabelBytes g bytes = (l : Label) × IsLabel g l × Holds bytes (label_bits l)

-- fewer than eight zero bits
abbrev pub IsPadding : List Bool → Type 0
IsPadding bits = (z : ℕ) × (z < 8) × (bits ≡ replicate z false)

-- a place at the module m is left, and then padding
pub record IsPlaceLeft (g : Grammar) (m : ℕ) (bits : List Bool) : Type 0 where
  pub place : Place
  pub of_it : IsPlace g m place
  pub padding : ℕ
  pub few : padding < 8
  pub is : bits ≡ flat_map step_bits place.steps ++ (ending_bits place.chain place.alternative place.edge ++ replicate padding false)

-- a step that is not the continuing one leaves k, and then a place at its target is left
pub record IsStepLeft (g : Grammar) (k : ℕ) (bits : List Bool) : Type 0 where
  pub step : Step
  pub of_it : IsStepOf g k step
  pub leaves : continuing g k ≢ Some step
  pub rest : List Bool
  pub is : bits ≡ true ∷ (gamma (alternative_of g step.production + 1) ++ (gamma (step.position + 1) ++ rest))
  pub next : IsPlaceLeft g (target_of g step) rest

-- an edge of a production of k is left, and then padding
pub record IsEndingLeft (g : Grammar) (k : ℕ) (bits : List Bool) : Type 0 where
  pub production : ℕ
  pub of_it : IsProductionOf g production k
  pub edge : ℕ
  pub in_range : edge < length (production_at g production).edges
  pub padding : ℕ
  pub few : padding < 8
  pub is : bits ≡ false ∷ (gamma (alternative_of g production + 1) ++ (gamma (edge + 1) ++ replicate padding false))

-- a step or an ending is left
abbrev pub IsPartLeft : Grammar → ℕ → List Bool → Type 0
IsPartLeft g k bits = IsStepLeft g k bits ⊎ IsEndingLeft g k bits

-- a chain number is left, exactly if m is on a cycle; it leads to a module of which a step or an ending is left then
pub record IsChainLeft (g : Grammar) (m : ℕ) (bits : List Bool) : Type 0 where
  pub chain : Option ℕ
  pub to : ℕ
  pub of_it : IsChain g m chain to
  pub rest : List Bool
  pub is : bits ≡ chain_bits chain ++ rest
  pub next : IsPartLeft g to rest

-- one of so many ports of the root is left, and then padding
pub record IsPortLeft (ports : ℕ) (bits : List Bool) : Type 0 where
  pub port : ℕ
  pub in_range : port < ports
  pub padding : ℕ
  pub few : padding < 8
  pub is : bits ≡ gamma (port + 1) ++ replicate padding false

-- the whole label is left, and then padding
abbrev pub IsLabelLeft : Grammar → List Bool → Type 0
IsLabelLeft g [] = ⊥
IsLabelLeft g (true ∷ bits) = IsPlaceLeft g g.start bits
IsLabelLeft g (false ∷ []) = ⊥
IsLabelLeft g (false ∷ false ∷ bits) = IsPortLeft (inputs_of g g.start) bits
IsLabelLeft g (false ∷ true ∷ bits) = IsPortLeft (outputs_of g g.start) bits
