-- The first pairs that one list of rows has and another has not, and those of a module at which a coarse view differs from a fine one.
use Rattle.std.specs.Prelude.{◌≡◌, ◌<◌, ◌≤◌, ◌⊎◌, ℕ, true, false, List, length, get_or}
use Rattle.wf_model.specs.Grammar.{Grammar, Assignment}
use Rattle.wf_model.specs.View.{View}
use Rattle.bool_mat.specs.Matrix.{has}
use Rattle.compare_model.specs.Pairs.{ModulePair, IsDenied, IsAdded}
pub use Rattle.compare_model.specs.Comparison.{pair_of}
use Rattle.wf_compare.specs.declared.pairs.Difference.{Difference}
use Rattle.wf_compare.specs.declared.pairs.Difference.TheVariants.{Denied, Added}

-- the first of two lists of rows has a pair, and the other has not
pub record IsMore (one other : List ℕ) (i o : ℕ) : Type 0 where
  pub there : i < length one
  pub in_one : has (get_or one i 0) o ≡ true
  pub in_other : has (get_or other i 0) o ≡ false

-- it has no such pair
abbrev pub HasNoMore : List ℕ → List ℕ → Type 0
HasNoMore one other = (i o : ℕ) → IsMore one other i o → ⊥

-- the pair stands at the other, or before it: by input, and then by output
abbrev pub IsNoLaterPort : ℕ → ℕ → ℕ → ℕ → Type 0
IsNoLaterPort i o j p = (i < j) ⊎ ((i ≡ j) × (o ≤ p))

-- the first such pair
pub record IsFirstMore (one other : List ℕ) (i o : ℕ) : Type 0 where
  pub more : IsMore one other i o
  pub first : (j p : ℕ) → IsMore one other j p → IsNoLaterPort i o j p

-- at a pair the coarse view differs in this way from a view that has the full assignment d
abbrev pub Differs : Difference → Grammar → View → Assignment → ModulePair → Type 0
Differs Denied g c d = IsDenied g c d
Differs Added g c d = IsAdded g c d

-- it holds of no pair of the module
abbrev pub HasNoneOf : (ModulePair → Type 0) → ℕ → Type 0
HasNoneOf Holds m = (i o : ℕ) → Holds (record { module_no = m; input = i; output = o }) → ⊥

-- the first pair of the module of which it holds
pub record IsFirstOf (Holds : ModulePair → Type 0) (m i o : ℕ) : Type 0 where
  pub holds : Holds (record { module_no = m; input = i; output = o })
  pub first : (j p : ℕ) → Holds (record { module_no = m; input = j; output = p }) → IsNoLaterPort i o j p
