-- Continuing steps, one after another.
use Rattle.std.proofs.Common.{◌≡◌, ℕ, zero, suc, ◌+◌, ◌-◌, ◌<◌, ◌≤◌, ◌⊎◌, refl, sym, ap, ◌∙◌, subst, ⊎_elim, arith}
use Rattle.wf_model.specs.Lists.{Walk, here, onward}
use Rattle.wf_model.specs.Grammar.{Grammar}
use Rattle.wf_model.specs.Proper.{Derives}
use Rattle.wf_model.specs.Reach.{target_of}
use Rattle.wf_model.specs.Linear.{IsLinear, IsOnCycle, GoesOn, GoesOnBy}
use Rattle.wf_model.proofs.Walks.{walk-append, walk_one}
use Rattle.wf_model.proofs.Going.{goes_makes, makes_goes}

-- modules that derive each other go on to each other
derives_goes : (g : Grammar) {a b : ℕ} → Derives g a b → Derives g b a → Walk (GoesOn g) a b
derives_goes g here back = here
derives_goes g (onward {x = x} {y = y} m w) back = onward (makes_goes g x y m (walk-append w back)) (derives_goes g w (walk-append back (walk_one m)))

-- from where a module goes on, there is a way back to it
goes_back : (g : Grammar) (a b : ℕ) → GoesOn g a b → Walk (GoesOn g) b a
goes_back g a b h = derives_goes g (subst (λ z. Derives g z a) h.2 h.1.1) (walk_one (goes_makes g a b h))

pub walks_back : (g : Grammar) {a b : ℕ} → Walk (GoesOn g) a b → Walk (GoesOn g) b a
walks_back g here = here
walks_back g (onward {x = x} {y = y} h w) = walk-append (walks_back g w) (goes_back g x y h)

-- a module to which a module on a cycle goes is on one
pub walk_on_cycle : (g : Grammar) {a b : ℕ} → Walk (GoesOn g) b a → IsOnCycle g a → IsOnCycle g b
walk_on_cycle g here c = c
walk_on_cycle g (onward h w) c = (h.0, h.1)

pub by_walk : (g : Grammar) (n a b : ℕ) → GoesOnBy g n a b → Walk (GoesOn g) a b
by_walk g zero a b h = subst (Walk (GoesOn g) a) h here
by_walk g (suc n) a b h = onward h.1 (by_walk g n h.0 b h.2)

pub walk_by : (g : Grammar) {a b : ℕ} → Walk (GoesOn g) a b → (n : ℕ) × GoesOnBy g n a b
walk_by g here = (0, refl)
walk_by g (onward {y = y} h w) = let r = walk_by g w in (suc r.0, (y, h, r.1))

pub by_more : (g : Grammar) (n a b c : ℕ) → GoesOnBy g n a b → GoesOn g b c → GoesOnBy g (suc n) a c
by_more g zero a b c h s = (c, subst (λ z. GoesOn g z c) (sym h) s, refl)
by_more g (suc n) a b c h s = (h.0, h.1, by_more g n h.0 b c h.2 s)

pub by_join : (g : Grammar) (n k a b c : ℕ) → GoesOnBy g n a b → GoesOnBy g k b c → GoesOnBy g (n + k) a c
by_join g zero k a b c h i = let e : k ≡ zero + k = omega arith in subst (λ j. GoesOnBy g j a c) e (subst (λ z. GoesOnBy g k z c) (sym h) i)
by_join g (suc n) k a b c h i =
    let e : suc (n + k) ≡ suc n + k = omega arith in
    let q : GoesOnBy g (suc (n + k)) a c = (h.0, h.1, by_join g n k h.0 b c h.2 i) in
    subst (λ j. GoesOnBy g j a c) e q

goes_same : (g : Grammar) → IsLinear g → (a b c : ℕ) → GoesOn g a b → GoesOn g a c → b ≡ c
goes_same g linear a b c h i = sym h.2 ∙ (ap (target_of g) (linear a h.0 i.0 h.1 i.1) ∙ i.2)

pub by_same : (g : Grammar) → IsLinear g → (n a b c : ℕ) → GoesOnBy g n a b → GoesOnBy g n a c → b ≡ c
by_same g linear zero a b c h i = sym h ∙ i
by_same g linear (suc n) a b c h i = by_same g linear n h.0 b c h.2 (subst (λ z. GoesOnBy g n z c) (goes_same g linear a i.0 h.0 i.1 h.1) i.2)

-- the longer of two ways goes on from the end of the shorter
pub by_after : (g : Grammar) → IsLinear g → (n k a b c : ℕ) → GoesOnBy g n a b → GoesOnBy g (n + k) a c → GoesOnBy g k b c
by_after g linear zero k a b c h i = let e : zero + k ≡ k = omega arith in subst (λ z. GoesOnBy g k z c) h (subst (λ j. GoesOnBy g j a c) e i)
by_after g linear (suc n) k a b c h i =
    let e : suc n + k ≡ suc (n + k) = omega arith in
    let r : GoesOnBy g (suc (n + k)) a c = subst (λ j. GoesOnBy g j a c) e i in
    by_after g linear n k h.0 b c h.2 (subst (λ z. GoesOnBy g (n + k) z c) (goes_same g linear a r.0 h.0 r.1 h.1) r.2)

less_or_more : (e d : ℕ) → (e < d) ⊎ (e ≡ d + (e - d))
less_or_more e d = grind arith

-- where d steps lead back, a module that is reached is reached by fewer than d
pub by_fewer : (g : Grammar) → IsLinear g → (d m l : ℕ) → 0 < d → GoesOnBy g d m m → (most e : ℕ) → e ≤ most → GoesOnBy g e m l → (k : ℕ) × (k < d) × GoesOnBy g k m l
by_fewer g linear d m l positive round zero e h way = (e, omega arith, way)
by_fewer g linear d m l positive round (suc most) e h way =
    ⊎_elim
    (λ less. (e, less, way))
    (λ (more : e ≡ d + (e - d)). let q : e - d ≤ most = omega arith in by_fewer g linear d m l positive round most (e - d) q (by_after g linear d (e - d) m m l round (subst (λ j. GoesOnBy g j m l) more way)))
    (less_or_more e d)
