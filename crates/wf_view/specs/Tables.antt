-- What is kept while a view is made: flags of the seen modules, and rows of bits.
use Rattle.std.specs.Prelude.{◌≡◌, ◌↔◌, ℕ, ◌<◌, ◌≤◌, ◌==◌, ◌&&◌, Bool, true, false, List, Vec, [], ◌∷◌, ◌++◌, length, get_or, bytes_eq, IsTrue}
use Rattle.std.specs.Int.{bit_at}
use Rattle.std.specs.declared.alloc.Global.{Global}
use Rattle.wf_model.specs.declared.parts.DepsPart.{DepsPart}
use Rattle.wf_model.specs.declared.parts.PairPart.{PairPart}
use Rattle.wf_model.specs.Lists.{IsIn, IsAt, some}
use Rattle.wf_model.specs.Grammar.{Grammar, Module, inputs_of, outputs_of}
use Rattle.wf_model.specs.View.{View, expands, IsSeenModule}
use Rattle.wf_spec.specs.Pairs.{HasKnownPairs}
use Rattle.wf_spec.specs.Naming.{IsNewAt}
use Rattle.wf_view.specs.Rules.{deps_names, number_in, IsModuleName}
use Rattle.wf_view.specs.Viewing.{is_shown}

-- rows of bits that say which pairs pass a test: a row for each input, a bit for each output, and no further bits
pub record AreRowsBy (inputs outputs : ℕ) (test : ℕ → ℕ → Bool) (rows : List ℕ) : Type 0 where
  pub one_each : length rows ≡ inputs
  pub bits : (i o : ℕ) → i < inputs → o < outputs → (bit_at (get_or rows i 0) o == 1) ≡ test i o
  pub no_more : (i o : ℕ) → outputs ≤ o → bit_at (get_or rows i 0) o ≡ 0

-- pairs of names name a pair of ports of a module
abbrev pub names_pair : Module → List PairPart → ℕ → ℕ → Bool
names_pair m pairs i o = some (λ (e : PairPart). bytes_eq (get_or m.inputs i []) e.input && bytes_eq (get_or m.outputs o []) e.output) pairs

-- what is kept of a module: no rows where it is expanded, otherwise those of the pairs that pass a test
pub record IsKept (g : Grammar) (expanded : Bool) (test : ℕ → ℕ → Bool) (m : ℕ) (list : List ℕ) : Type 0 where
  pub none : expanded ≡ true → list ≡ []
  pub rows : expanded ≡ false → AreRowsBy (inputs_of g m) (outputs_of g m) test list

-- so of each of the first n modules, with flags of those that are expanded, and the pairs that deps parts show
pub record AreKept (g : Grammar) (marks : List Bool) (deps : List DepsPart) (n : ℕ) (table : List (Vec ℕ Global)) : Type 0 where
  pub one_each : length table ≡ n
  pub each : (m : ℕ) (list : Vec ℕ Global) → IsAt list m table → IsKept g (get_or marks m false) (is_shown g deps m) m list.items

-- one deps part more is taken in: one about a module that is not expanded, and that no part before is about
abbrev pub IsTakenIn : Grammar → DepsPart → List (Vec ℕ Global) → List (Vec ℕ Global) → Type 0
IsTakenIn g d old new =
    (marks : List Bool) (before : List DepsPart) → get_or marks (number_in g d.«module») false ≡ false → ¬ IsIn d.«module» (deps_names before) →
    AreKept g marks before (length g.modules) old → AreKept g marks (before ++ d ∷ []) (length g.modules) new

-- deps parts are about modules that are not expanded, no two about one, and name pairs of ports
pub record AreSound (g : Grammar) (marks : List Bool) (deps : List DepsPart) : Type 0 where
  pub known : (d : DepsPart) → IsIn d deps → IsModuleName g d.«module»
  pub not_expanded : (d : DepsPart) → IsIn d deps → get_or marks (number_in g d.«module») false ≡ false
  pub pairs : (d : DepsPart) → IsIn d deps → HasKnownPairs g.modules d
  pub differ : (k : ℕ) → k < length (deps_names deps) → IsNewAt (deps_names deps) k

-- flags of the modules that are seen under each view that expands those that are marked
abbrev pub AreSeen : Grammar → List Bool → List Bool → Type 0
AreSeen g marks seen =
    (u : View) → ((m : ℕ) → expands u m ≡ get_or marks m false) → (m : ℕ) → IsTrue (get_or seen m false) ↔ IsSeenModule g u m
