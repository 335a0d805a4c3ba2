-- Rows of bits for sets of pairs.
use Rattle.std.specs.Prelude.{◌≡◌, ℕ, ◌<◌, ◌≤◌, Bool, cond, ◌&&◌, ◌==◌, List, length, get_or}
use Rattle.std.specs.Int.{bit_at}
use Rattle.wf_model.specs.Lists.{some}
use Rattle.wf_model.specs.Grammar.{Module}

-- the bit of a pair in rows
abbrev pub bit_in : List ℕ → ℕ → ℕ → ℕ
bit_in rows i o = bit_at (get_or rows i 0) o

-- a row for each input, with a bit for each output, all alike, and no further bits
pub record AreAlike (m : Module) (all : Bool) (rows : List ℕ) : Type 0 where
  pub one_each : length rows ≡ length m.inputs
  pub bits : (i o : ℕ) → i < length m.inputs → o < length m.outputs → bit_in rows i o ≡ cond {A = ℕ} all 1 0
  pub no_more : (i o : ℕ) → length m.outputs ≤ o → bit_in rows i o ≡ 0

-- pairs hold a pair
abbrev pub has_pair : List (ℕ × ℕ) → ℕ → ℕ → Bool
has_pair pairs i o = some (λ (e : ℕ × ℕ). (e.0 == i) && (e.1 == o)) pairs

-- the bits of pairs are set, and the others are as before
abbrev pub AreAdded : List (ℕ × ℕ) → List ℕ → List ℕ → Type 0
AreAdded pairs before after = (i o : ℕ) → bit_in after i o ≡ cond {A = ℕ} (has_pair pairs i o) 1 (bit_in before i o)
