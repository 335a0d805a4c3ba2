-- The modules that stand in a body, as they are read.
use Rattle.std.proofs.Common.{◌≡◌, ℕ, ◌<◌, List, map, length, get_or, sym, ap, ◌∙◌, subst}
use Rattle.std.proofs.lemmas.Simd.{map-map}
use Rattle.wf_model.specs.declared.body.Position.{Position as PositionHeld}
use Rattle.wf_model.specs.Lists.{IsIn}
use Rattle.wf_model.specs.Meaning.{position_of}
use Rattle.wf_model.specs.Grammar.{Grammar, Position, Production, production_at, body_of}
use Rattle.wf_model.specs.WellFormed.{IsWellFormed}
use Rattle.wf_safe.proofs.Taken.{in_next}

abbrev pub module_held : PositionHeld → ℕ
module_held q = q.«module».0

pub body_is : (g : Grammar) (p : ℕ) (xs : List PositionHeld) (r : Production) → map position_of xs ≡ r.positions → r ≡ production_at g p → map module_held xs ≡ body_of g p
body_is g p xs r e s = sym (map-map (λ (q : Position). q.module_no) position_of xs) ∙ (ap (map (λ (q : Position). q.module_no)) (e ∙ ap (λ (z : Production). z.positions) s))

-- the module of a position stands in the body, and is there
pub stands_there : (g : Grammar) (p : ℕ) (xs : List PositionHeld) (r : Production) (k : ℕ) (q : PositionHeld) → map position_of xs ≡ r.positions → r ≡ production_at g p → k < length xs → q ≡ get_or xs k q → IsIn (module_held q) (body_of g p)
stands_there g p xs r k q e s h i = subst (λ z. IsIn z (body_of g p)) (ap module_held (sym i)) (subst (IsIn (module_held (get_or xs k q))) (body_is g p xs r e s) (in_next module_held xs k q h))

pub below_there : (g : Grammar) (p : ℕ) (m : ℕ) → IsWellFormed g → p < length g.productions → IsIn m (body_of g p) → m < length g.modules
below_there g p m wf h i = (wf.bodies p h).modules m i
