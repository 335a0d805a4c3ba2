-- Views of a grammar.
use Rattle.std.specs.Prelude.{◌≡◌, ℕ, ◌<◌, ◌↔◌, Bool, false, ◌&&◌, ◌==◌, IsTrue, List, [], length, get_or}
use Rattle.wf_model.specs.Lists.{IsIn, some}
use Rattle.wf_model.specs.Grammar.{Grammar, Assignment, inputs_of, outputs_of, body_of, head_of, IsAtomic, IsComposite, is_given}

-- a view: the modules that it expands, and for each module the pairs that it shows, the defaults applied
pub record View : Type 0 where
  pub expanded : List ℕ
  pub shown : List (List (ℕ × ℕ))

-- the view expands the module
abbrev pub expands : View → ℕ → Bool
expands u m = some (λ k. k == m) u.expanded

-- the perceived pairs of a module that is not expanded
abbrev pub shows : View → Assignment
shows u m i o = some (λ (e : ℕ × ℕ). (e.0 == i) && (e.1 == o)) (get_or u.shown m [])

-- The seen modules. The start module is seen, and so are the modules in the bodies of seen, expanded modules
pub data IsSeenModule (g : Grammar) (u : View) : ℕ → Type 0 where
  at_start : {m : ℕ} → m ≡ g.start → IsSeenModule g u m
  in_body : {m : ℕ} (p : ℕ) → p < length g.productions → IsSeenModule g u (head_of g p) → IsTrue (expands u (head_of g p)) → IsIn m (body_of g p) → IsSeenModule g u m

-- a view of the grammar: it expands composite modules only, and the pairs that it shows of the others are pairs of their ports
pub record IsViewOf (g : Grammar) (u : View) : Type 0 where
  pub expanded : (m : ℕ) → IsTrue (expands u m) → IsComposite g m
  pub shown : (m i o : ℕ) → IsTrue (shows u m i o) → (m < length g.modules) × (i < inputs_of g m) × (o < outputs_of g m)

-- what a view shows of the modules to which it gives no pairs: an atomic module keeps the pairs of the grammar, a composite one has all pairs
pub record IsShownByDefault (g : Grammar) (u : View) (m : ℕ) : Type 0 where
  pub atomic : IsAtomic g m → (i o : ℕ) → i < inputs_of g m → o < outputs_of g m → shows u m i o ≡ is_given g.given m i o
  pub composite : IsComposite g m → (i o : ℕ) → i < inputs_of g m → o < outputs_of g m → IsTrue (shows u m i o)

-- the default view: it expands every composite module, and gives no pairs
pub record IsDefaultView (g : Grammar) (u : View) : Type 0 where
  pub expanded : (m : ℕ) → IsTrue (expands u m) ↔ IsComposite g m
  pub shown : (m : ℕ) → m < length g.modules → expands u m ≡ false → IsShownByDefault g u m
