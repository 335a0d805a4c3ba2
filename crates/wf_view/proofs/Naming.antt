-- Names that differ and their places, and modules and their names.
use Rattle.std.proofs.Common.{◌≡◌, ℕ, ◌<◌, ◌==◌, Bool, true, false, List, [], length, get_or, bytes_eq, refl, sym, ap, ◌∙◌, subst}
use Rattle.std.proofs.lemmas.Bool.{eqb-true, eq-eqb}
use Rattle.std.proofs.lemmas.List.{get_or-map, length-map}
use Rattle.wf_model.specs.Lists.{IsIn, AllDiffer}
use Rattle.wf_model.specs.Grammar.{Grammar, Module, module_at}
use Rattle.wf_model.specs.WellFormed.{IsWellFormed, IsWellFormedModule}
use Rattle.wf_model.proofs.Lists.{at_is, same_bytes, bytes_same}
use Rattle.wf_spec.specs.Naming.{names_of, place_of}
use Rattle.wf_spec.proofs.Finding.{at_place, place_at}
use Rattle.wf_spec.proofs.Reading.{module_read}
use Rattle.wf_spec.proofs.Tables.{get_in}
use Rattle.wf_view.specs.Rules.{number_in, IsModuleName}
use Rattle.wf_view.specs.Viewing.{name_of}
use Rattle.std.specs.Cmp.Derive.{one_truth}

-- so the name at a place is a name that is there exactly if it is the place of this name
pub named_at : (names : List (List ℕ)) → AllDiffer names → (name : List ℕ) → IsIn name names → (k : ℕ) → k < length names → bytes_eq (get_or names k []) name ≡ (place_of names name == k)
named_at names differ name known k below =
    one_truth (bytes_eq (get_or names k []) name) (place_of names name == k)
    (λ e. eq-eqb (place_of names name) k (ap (place_of names) (sym (same_bytes (get_or names k []) name e)) ∙ place_at names k differ below))
    (λ e. bytes_same (get_or names k []) name (ap (λ j. get_or names j []) (sym (eqb-true (place_of names name) k e)) ∙ at_is name (place_of names name) names [] (at_place names name known)))

-- the name of a module, among those of all
pub name_at : (g : Grammar) (m : ℕ) → m < length g.modules → get_or (names_of g.modules) m [] ≡ name_of g m
name_at g m below = get_or-map (λ (k : Module). k.name) g.modules m _ [] below

below_names : (g : Grammar) (m : ℕ) → m < length g.modules → m < length (names_of g.modules)
below_names g m below = subst (λ n. m < n) (sym (length-map g.modules (λ (k : Module). k.name))) below

pub name_there : (g : Grammar) (m : ℕ) → m < length g.modules → IsModuleName g (name_of g m)
name_there g m below = subst (IsModuleName g) (name_at g m below) (get_in m (names_of g.modules) [] (below_names g m below))

-- the module of this name has this number
pub number_is : (g : Grammar) → IsWellFormed g → (m : ℕ) → m < length g.modules → number_in g (name_of g m) ≡ m
number_is g w m below = ap (number_in g) (sym (name_at g m below)) ∙ place_at (names_of g.modules) m w.names_differ (below_names g m below)

-- so a module has a name exactly if it has its number
pub named_is : (g : Grammar) → IsWellFormed g → (name : List ℕ) → IsModuleName g name → (m : ℕ) → m < length g.modules → bytes_eq (name_of g m) name ≡ (number_in g name == m)
named_is g w name known m below = ap (λ n. bytes_eq n name) (sym (name_at g m below)) ∙ named_at (names_of g.modules) w.names_differ name known m (below_names g m below)

-- and no module has a name that is not there
pub named_not : (g : Grammar) (name : List ℕ) → (IsModuleName g name → ⊥) → (m : ℕ) → m < length g.modules → bytes_eq (name_of g m) name ≡ false
named_not g name never m below = by (bytes_eq (name_of g m) name) refl
  where
    by : (b : Bool) → bytes_eq (name_of g m) name ≡ b → bytes_eq (name_of g m) name ≡ false
    by true e = absurd (never (subst (IsModuleName g) (same_bytes (name_of g m) name e) (name_there g m below)))
    by false e = e

-- the module of a number, as it is read
pub module_is : (g : Grammar) (read : List Module) (m : ℕ) (x : Module) → read ≡ g.modules → m < length g.modules → x ≡ get_or read m x → x ≡ module_at g m
module_is g read m x is below was = module_read g.modules m x below (was ∙ ap (λ ms. get_or ms m x) is)

-- it is well-formed
pub module_formed : (g : Grammar) → IsWellFormed g → (m : ℕ) → m < length g.modules → IsWellFormedModule (module_at g m)
module_formed g w m below = w.modules (module_at g m) (get_in m g.modules _ below)
