-- Productions of a grammar and the modules that they expand: the test for a composite module says what the word says.
use Rattle.std.proofs.Common.{◌≡◌, ℕ, ◌<◌, Bool, true, false, ◌==◌, [], length, refl, ap, ◌∙◌, subst}
use Rattle.std.proofs.lemmas.Bool.{eqb-true, eq-eqb}
use Rattle.wf_model.specs.Lists.{IsIn}
use Rattle.wf_model.specs.Grammar.{Grammar, Production, production_at, head_of, IsComposite}
use Rattle.wf_model.specs.WellFormed.{IsWellFormed}
use Rattle.wf_model.proofs.Lists.{some_from, some_gives, at_below, at_in, at_is, in_at, is_at}
use Rattle.wf_model.specs.Composite.{is_composite}

pub composite_gives : (g : Grammar) (m : ℕ) → is_composite g m ≡ true → IsComposite g m
composite_gives g m h =
    let r = some_gives (λ (p : Production). p.head == m) g.productions h in
    let k = in_at r.0 g.productions r.1 in
    (k.0, (at_below r.0 k.0 g.productions k.1, ap (λ (p : Production). p.head) (at_is r.0 k.0 g.productions _ k.1) ∙ eqb-true r.0.head m r.2))

pub composite_is : (g : Grammar) (m : ℕ) → IsComposite g m → is_composite g m ≡ true
composite_is g m d =
    some_from (λ (p : Production). p.head == m) (production_at g d.0) g.productions (at_in _ d.0 g.productions (is_at d.0 g.productions _ d.1.0)) (eq-eqb (head_of g d.0) m d.1.1)

pub atomic_is : (g : Grammar) (m : ℕ) → (IsComposite g m → ⊥) → is_composite g m ≡ false
atomic_is g m h = go (is_composite g m) (composite_gives g m)
  where
    go : (b : Bool) → (b ≡ true → IsComposite g m) → b ≡ false
    go true f = absurd (h (f refl))
    go false f = refl

-- what is composite is a module
pub composite_below : (g : Grammar) → IsWellFormed g → (m : ℕ) → IsComposite g m → m < length g.modules
composite_below g w m d = subst (λ k. k < length g.modules) d.1.1 (w.heads d.0 d.1.0)

-- a production is that of its number, and each number has one
pub production_in : (g : Grammar) (p : ℕ) → p < length g.productions → IsIn (production_at g p) g.productions
production_in g p h = at_in (production_at g p) p g.productions (is_at p g.productions (record { head = 0; positions = []; edges = []; entries = []; exits = [] }) h)

pub production_no : (g : Grammar) (r : Production) → IsIn r g.productions → (p : ℕ) × (p < length g.productions) × (production_at g p ≡ r)
production_no g r h = let k = in_at r g.productions h in (k.0, at_below r k.0 g.productions k.1, at_is r k.0 g.productions (record { head = 0; positions = []; edges = []; entries = []; exits = [] }) k.1)
