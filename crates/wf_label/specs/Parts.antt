-- What is read of a label from the front, part by part.
use Rattle.std.specs.Prelude.{◌≡◌, ◌≢◌, ◌↔◌, ℕ, ◌+◌, ◌<◌, Bool, true, false, List, ◌∷◌, ◌++◌, length, Option, Some, None}
use Rattle.wf_model.specs.declared.numbers.ModNo.{ModNo}
use Rattle.wf_model.specs.declared.numbers.ProdNo.{ProdNo}
use Rattle.wf_model.specs.Grammar.{Grammar, head_of, alternative_of, IsProductionOf}
use Rattle.bit_pack.specs.Bits.{bits_of}
use Rattle.bit_pack.specs.Gamma.{gamma}
use Rattle.bit_pack.specs.Reading.{Reading}
use Rattle.label_model.specs.Reading.{IsPadding, IsPlaceLeft, IsPartLeft}

-- Some bits were read. Bits that begin with them are as `before` says exactly if what follows them is as `after` says
pub record IsPassed (before after : List Bool → Type 0) (old new : Reading) : Type 0 where
  pub bits : List Bool
  pub is : old.left ≡ bits ++ new.left
  pub at : new.at ≡ old.at + length bits
  pub same : (left : List Bool) → before (bits ++ left) ↔ after left

-- a reader of all bits of the bytes
abbrev pub at_front : List ℕ → Reading
at_front bytes = record { at = 0; left = bits_of bytes }

-- the code of n + 1 was read
pub record IsNumberRead (n : ℕ) (old new : Reading) : Type 0 where
  pub is : old.left ≡ gamma (n + 1) ++ new.left
  pub at : new.at ≡ old.at + length (gamma (n + 1))

-- the bits begin with the code of n + 1 for no n below this number
abbrev pub HasNoNumber : ℕ → List Bool → Type 0
HasNoNumber count bits = (n : ℕ) (rest : List Bool) → n < count → bits ≢ gamma (n + 1) ++ rest

-- the bits begin with the alternative number of no production of the module
abbrev pub HasNoAlternative : Grammar → ℕ → List Bool → Type 0
HasNoAlternative g m bits = (p : ℕ) (rest : List Bool) → IsProductionOf g p m → bits ≢ gamma (alternative_of g p + 1) ++ rest

-- the position of a step by the production p is left, and then a place
abbrev pub IsStepByLeft : Grammar → ℕ → List Bool → Type 0
IsStepByLeft g p bits = IsPartLeft g (head_of g p) (true ∷ (gamma (alternative_of g p + 1) ++ bits))

-- the edge of an ending by the production p is left, and then padding
abbrev pub IsEndingByLeft : Grammar → ℕ → List Bool → Type 0
IsEndingByLeft g p bits = IsPartLeft g (head_of g p) (false ∷ (gamma (alternative_of g p + 1) ++ bits))

-- a place at the module is left after a step, and padding after an ending
abbrev pub IsNextLeft : Grammar → Option ModNo → List Bool → Type 0
IsNextLeft g None bits = IsPadding bits
IsNextLeft g (Some m) bits = IsPlaceLeft g m.0 bits

-- a chain number was passed, which leads from the one module to the other
abbrev pub IsChainPassed : Grammar → ModNo → ModNo → Reading → Reading → Type 0
IsChainPassed g m k = IsPassed (IsPlaceLeft g m.0) (IsPartLeft g k.0)

-- the position of a step by the production was passed, which leads to the module
abbrev pub IsPositionPassed : Grammar → ProdNo → ModNo → Reading → Reading → Type 0
IsPositionPassed g p m = IsPassed (IsStepByLeft g p.0) (IsPlaceLeft g m.0)

-- a step or an ending of the module was passed; a step leads to a module
abbrev pub IsPartPassed : Grammar → ModNo → Option ModNo → Reading → Reading → Type 0
IsPartPassed g k to = IsPassed (IsPartLeft g k.0) (IsNextLeft g to)
