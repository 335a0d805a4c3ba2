-- Lists that begin one list.
use Rattle.std.proofs.Common.{◌≡◌, ℕ, zero, suc, Bool, true, false, List, [], ◌∷◌, ◌++◌, length, replicate, refl, ap, ◌∙◌, arith}

-- two lists of one length that begin one list are one
pub same_front : {A : Type 0} (a b x y : List A) → length a ≡ length b → a ++ x ≡ b ++ y → (a ≡ b) × (x ≡ y)
same_front [] [] x y l e = (refl, e)
same_front [] (c ∷ b) x y l e = absurd (omega arith)
same_front (c ∷ a) [] x y l e = absurd (omega arith)
same_front (c ∷ a) (d ∷ b) x y l e =
    let h : c ≡ d = cc in
    let t : a ++ x ≡ b ++ y = cc in
    let k : length a ≡ length b = omega arith in
    let r = same_front a b x y k t in
    (ap (λ z. z ∷ a) h ∙ ap (λ z. d ∷ z) r.0, r.1)

-- zeros up to the first one
pub same_zeros : (i j : ℕ) (x y : List Bool) → replicate i false ++ true ∷ x ≡ replicate j false ++ true ∷ y → (i ≡ j) × (x ≡ y)
same_zeros zero zero x y e = let t : x ≡ y = cc in (refl, t)
same_zeros zero (suc j) x y e = absurd (cc)
same_zeros (suc i) zero x y e = absurd (cc)
same_zeros (suc i) (suc j) x y e =
    let t : replicate i false ++ true ∷ x ≡ replicate j false ++ true ∷ y = cc in
    let r = same_zeros i j x y t in
    (ap suc r.0, r.1)

-- no one is among zeros
pub no_one : (i j : ℕ) (x : List Bool) → replicate i false ++ true ∷ x ≡ replicate j false → ⊥
no_one zero zero x e = cc
no_one zero (suc j) x e = cc
no_one (suc i) zero x e = cc
no_one (suc i) (suc j) x e = let t : replicate i false ++ true ∷ x ≡ replicate j false = cc in no_one i j x t
