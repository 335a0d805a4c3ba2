-- Where a label goes on behind its first bits, kept for other labels that begin with the same bits.
use Rattle.std.specs.Prelude.{◌≡◌, ◌↔◌, ℕ, ◌<◌, ◌≤◌, Bool, true, false, List, ◌++◌, length, take}
use Rattle.wf_model.specs.Grammar.{Grammar}
use Rattle.bit_pack.specs.Bits.{number}
use Rattle.label_model.specs.Reading.{IsLabelLeft, IsPlaceLeft, IsPartLeft}
use Rattle.wf_label.specs.declared.checker.Checkpoint.{Checkpoint}

-- a place at the module is left, or a part, where its chain number was passed
abbrev pub IsLeftAt : Grammar → Bool → ℕ → List Bool → Type 0
IsLeftAt g true m bits = IsPartLeft g m bits
IsLeftAt g false m bits = IsPlaceLeft g m bits

-- bits that begin with these are a label exactly if this is left behind them
abbrev pub GoesOn : Grammar → List Bool → Bool → ℕ → Type 0
GoesOn g front chained m = (left : List Bool) → IsLabelLeft g (front ++ left) ↔ IsLeftAt g chained m left

-- a checkpoint tells how labels go on that begin with its bits
pub record IsCheckpoint (g : Grammar) (c : Checkpoint) : Type 0 where
  pub front : List Bool
  pub long : length front ≡ c.bits
  pub some : 0 < c.bits
  pub few : c.bits < 64
  pub told : number front ≡ c.front
  pub in_range : c.at.0 < length g.modules
  pub goes_on : GoesOn g front c.chained c.at.0

-- these bits begin with those of a checkpoint, and a label goes on behind them as it tells
pub record IsShared (g : Grammar) (bits : List Bool) (c : Checkpoint) : Type 0 where
  pub few : c.bits < 64
  pub inside : c.bits ≤ length bits
  pub in_range : c.at.0 < length g.modules
  pub goes_on : GoesOn g (take c.bits bits) c.chained c.at.0
