-- The name of an item at the front of bytes.
use Rattle.std.specs.Prelude.{◌≡◌, ℕ, List, ◌∷◌, ◌++◌}
use Rattle.wf_model.specs.Run.{IsNameByte}
use Rattle.wf_model.specs.WellFormed.{IsShortName}
use Rattle.wf_model.specs.Items.{dotted}

-- bytes that do not begin with a byte of a name
abbrev pub BeginsOtherwise : List ℕ → Type 0
BeginsOtherwise bytes = (b : ℕ) (behind : List ℕ) → bytes ≡ b ∷ behind → IsNameByte b → ⊥

-- the name of the item of an instance and of a port stands at the front, and no further byte of a name behind it
pub record HasItemFirst (bytes instance port rest : List ℕ) : Type 0 where
  pub is : bytes ≡ dotted instance port ++ rest
  pub instance_short : IsShortName instance
  pub port_short : IsShortName port
  pub ends : BeginsOtherwise rest
