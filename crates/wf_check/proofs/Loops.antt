-- Unit productions that lead from a module back to it, as walks and as lists.
use Rattle.std.proofs.Common.{◌≡◌, ℕ, List, [], ◌∷◌, length, get_or, refl, sym, subst, inl, inr, arith}
use Rattle.wf_model.specs.Lists.{IsIn, Walk, here, onward}
use Rattle.wf_model.specs.Grammar.{Grammar, body_of}
use Rattle.wf_model.specs.Proper.{Becomes}
use Rattle.wf_check.specs.Improper.{UnitPath, IsUnitCycle}

-- the only element of a list is the first
pub only_one : (xs : List ℕ) (b : ℕ) → length xs ≡ 1 → IsIn b xs → get_or xs 0 0 ≡ b
only_one [] b one i = absurd i
only_one (x ∷ xs) b one (inl e) = sym e
only_one (x ∷ []) b one (inr i) = absurd i
only_one (x ∷ (y ∷ xs)) b one (inr i) = absurd (omega arith)

pub only_first : (xs : List ℕ) → length xs ≡ 1 → IsIn (get_or xs 0 0) xs
only_first [] e = absurd (omega arith)
only_first (x ∷ xs) e = inl refl

path_more : (g : Grammar) (a b c : ℕ) (d : Becomes g a b) (ps : List ℕ) → UnitPath g b ps c → UnitPath g a (d.0 ∷ ps) c
path_more g a b c d ps path = (d.1, d.2, subst (λ z. UnitPath g z ps c) (sym (only_one (body_of g d.0) b d.2 d.3)) path)

pub path_of : (g : Grammar) {a b : ℕ} → Walk (Becomes g) a b → (ps : List ℕ) × UnitPath g a ps b
path_of g here = ([], refl)
path_of g {b = c} (onward {x = a} {y = b} d w) = let r = path_of g w in (d.0 ∷ r.0, path_more g a b c d r.0 r.1)

-- and back
pub walk_of : (g : Grammar) (ps : List ℕ) (a b : ℕ) → UnitPath g a ps b → Walk (Becomes g) a b
walk_of g [] a b h = subst (λ z. Walk (Becomes g) a z) h here
walk_of g (p ∷ ps) a b h = onward (p, h.0, h.1, only_first (body_of g p) h.1) (walk_of g ps (get_or (body_of g p) 0 0) b h.2)

-- where no list leads back, no walk does
pub no_loop : (g : Grammar) → ((m : ℕ) (ps : List ℕ) → IsUnitCycle g m ps → ⊥) → (a b : ℕ) → Becomes g a b → Walk (Becomes g) b a → ⊥
no_loop g none a b d w = let r = path_of g w in none a (d.0 ∷ r.0) (omega arith, path_more g a b a d r.0 r.1)
