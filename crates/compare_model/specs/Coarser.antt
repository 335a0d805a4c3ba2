-- Two views of one grammar, of which one is coarser.
use Rattle.std.specs.Prelude.{◌≡◌, ℕ, ◌≤◌, false, IsTrue}
use Rattle.wf_model.specs.Grammar.{Grammar}
use Rattle.wf_model.specs.View.{View, expands, IsSeenModule}

-- the view c is coarser than u, or as coarse: it expands only modules that u expands
abbrev pub IsCoarser : View → View → Type 0
IsCoarser c u = (m : ℕ) → IsTrue (expands c m) → IsTrue (expands u m)

-- a module that c expands and u does not, whether or not they see it
abbrev pub IsExpandedAlone : View → View → ℕ → Type 0
IsExpandedAlone c u m = IsTrue (expands c m) × (expands u m ≡ false)

-- the least of these
abbrev pub IsFirstExpandedAlone : View → View → ℕ → Type 0
IsFirstExpandedAlone c u m = IsExpandedAlone c u m × ((k : ℕ) → IsExpandedAlone c u k → m ≤ k)

-- a border module: one that the view sees and does not expand
abbrev pub IsBorder : Grammar → View → ℕ → Type 0
IsBorder g c m = IsSeenModule g c m × (expands c m ≡ false)
