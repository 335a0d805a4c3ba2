-- Pairs of border modules in which a coarse view differs from the full assignment of a fine one.
use Rattle.std.specs.Prelude.{◌≡◌, ℕ, ◌<◌, ◌≤◌, ◌⊎◌, true, false}
use Rattle.wf_model.specs.Grammar.{Grammar, Assignment, inputs_of, outputs_of}
use Rattle.wf_model.specs.View.{View, shows}
use Rattle.compare_model.specs.Coarser.{IsBorder}

-- a pair of ports of a module: an input and an output, all by number
pub record ModulePair : Type 0 where
  pub module_no : ℕ
  pub input : ℕ
  pub output : ℕ

-- a pair of ports of a border module
pub record IsBorderPair (g : Grammar) (c : View) (x : ModulePair) : Type 0 where
  pub border : IsBorder g c x.module_no
  pub input_there : x.input < inputs_of g x.module_no
  pub output_there : x.output < outputs_of g x.module_no

-- the view c denies the pair: it is among those of the full assignment d of the other view, and not among those that c shows
pub record IsDenied (g : Grammar) (c : View) (d : Assignment) (x : ModulePair) : Type 0 where
  pub pair : IsBorderPair g c x
  pub fine : d x.module_no x.input x.output ≡ true
  pub coarse : shows c x.module_no x.input x.output ≡ false

-- the view c adds the pair: it is the other way round
pub record IsAdded (g : Grammar) (c : View) (d : Assignment) (x : ModulePair) : Type 0 where
  pub pair : IsBorderPair g c x
  pub fine : d x.module_no x.input x.output ≡ false
  pub coarse : shows c x.module_no x.input x.output ≡ true

-- it denies no pair
abbrev pub DeniesNone : Grammar → View → Assignment → Type 0
DeniesNone g c d = (x : ModulePair) → IsDenied g c d x → ⊥

-- it adds none
abbrev pub AddsNone : Grammar → View → Assignment → Type 0
AddsNone g c d = (x : ModulePair) → IsAdded g c d x → ⊥

-- the one pair is the other, or comes before it: by module, then by input, then by output
abbrev pub IsNoLater : ModulePair → ModulePair → Type 0
IsNoLater x y =
    (x.module_no < y.module_no) ⊎
    ((x.module_no ≡ y.module_no) × ((x.input < y.input) ⊎ ((x.input ≡ y.input) × (x.output ≤ y.output))))

-- the first of the pairs for which something holds
abbrev pub IsFirst : (ModulePair → Type 0) → ModulePair → Type 0
IsFirst Holds x = Holds x × ((y : ModulePair) → Holds y → IsNoLater x y)
