-- Steps of modules: what they make, and continuing steps.
use Rattle.std.proofs.Common.{◌≡◌, ℕ, ◌<◌, length, get_or, sym, ap, ◌∙◌, subst}
use Rattle.wf_model.specs.Lists.{Walk, here, onward}
use Rattle.wf_model.specs.Grammar.{Grammar, body_of}
use Rattle.wf_model.specs.WellFormed.{IsWellFormed}
use Rattle.wf_model.specs.Proper.{Makes, Derives}
use Rattle.wf_model.specs.Reach.{Step, target_of}
use Rattle.wf_model.specs.Linear.{IsStepOf, GoesOn}
use Rattle.wf_model.proofs.Lists.{in_at, at_is, at_below, at_in, is_at}

pub same_step : (s t : Step) → s.production ≡ t.production → s.position ≡ t.position → s ≡ t
same_step s t p q = ap (λ k. record { production = k; position = s.position }) p ∙ ap (λ k. record { production = t.production; position = k }) q

-- what stands in a body is a module
pub made_below : (g : Grammar) → IsWellFormed g → (a b : ℕ) → Makes g a b → b < length g.modules
made_below g w a b d = (w.bodies d.0 d.1.0).modules b d.2

-- a step makes its target
pub step_makes : (g : Grammar) (m : ℕ) (s : Step) → IsStepOf g m s → Makes g m (target_of g s)
step_makes g m s i = (s.production, (i.in_range, i.head), at_in (target_of g s) s.position (body_of g s.production) (is_at s.position (body_of g s.production) 0 i.position))

pub goes_makes : (g : Grammar) (a b : ℕ) → GoesOn g a b → Makes g a b
goes_makes g a b h = subst (Makes g a) h.2 (step_makes g a h.0 h.1.0)

pub goes_derives : (g : Grammar) {a b : ℕ} → Walk (GoesOn g) a b → Derives g a b
goes_derives g here = here
goes_derives g (onward {x = x} {y = y} h w) = onward (goes_makes g x y h) (goes_derives g w)

-- what makes a module that derives it back goes on to it
pub makes_goes : (g : Grammar) (a b : ℕ) → Makes g a b → Derives g b a → GoesOn g a b
makes_goes g a b h back =
    let k = in_at b (body_of g h.0) h.2 in
    let is : get_or (body_of g h.0) k.0 0 ≡ b = at_is b k.0 (body_of g h.0) 0 k.1 in
    (record { production = h.0; position = k.0 }, (record { in_range = h.1.0; head = h.1.1; position = at_below b k.0 (body_of g h.0) k.1 }, subst (λ z. Derives g z a) (sym is) back), is)
