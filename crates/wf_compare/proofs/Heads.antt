-- The first of a list and the rest, as a slice pattern reads them.
use Rattle.std.proofs.Common.{◌≡◌, ◌≤◌, List, [], ◌∷◌, length, drop, slice_index_or, refl, sym, ap, arith}

pub first_and_rest : {A : Type 0} (left rest : List A) (d : A) → 1 ≤ length left → rest ≡ drop 1 left → left ≡ slice_index_or left 0 d ∷ rest
first_and_rest [] rest d h e = absurd (omega arith)
first_and_rest (x ∷ xs) rest d h e = ap (λ l. x ∷ l) (sym e)

pub none_left : {A : Type 0} (left : List A) → (1 ≤ length left → ⊥) → left ≡ []
none_left [] h = refl
none_left (x ∷ xs) h = absurd (h (omega arith))
