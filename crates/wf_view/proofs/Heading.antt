-- Composite modules are modules.
use Rattle.std.proofs.Common.{◌≡◌, ℕ, ◌<◌, ◌≤◌, Bool, true, false, length, refl, subst, arith}
use Rattle.wf_model.specs.Composite.{is_composite}
use Rattle.wf_model.specs.Grammar.{Grammar}
use Rattle.wf_model.specs.WellFormed.{IsWellFormed}
use Rattle.wf_model.proofs.Composites.{composite_gives}

-- what is composite is a module
pub composite_below : (g : Grammar) → IsWellFormed g → (m : ℕ) → is_composite g m ≡ true → m < length g.modules
composite_below g w m h = let d = composite_gives g m h in subst (λ k. k < length g.modules) d.1.1 (w.heads d.0 d.1.0)

pub none_past : (g : Grammar) → IsWellFormed g → (m : ℕ) → length g.modules ≤ m → is_composite g m ≡ false
none_past g w m past = by (is_composite g m) refl
  where
    by : (b : Bool) → is_composite g m ≡ b → is_composite g m ≡ false
    by true e = absurd (let l = composite_below g w m e in omega arith)
    by false e = e
