-- Lists of numbers in order, and lists of pairs.
use Rattle.std.proofs.Common.{◌≡◌, List, [], ◌∷◌, ◌++◌, map, length, zip, refl, ap, arith}

pub zip-append : {A B : Type 0} (a c : List A) (b d : List B) → length a ≡ length b → zip (a ++ c) (b ++ d) ≡ zip a b ++ zip c d
zip-append [] c [] d e = refl
zip-append [] c (y ∷ b) d e = absurd (omega arith)
zip-append (x ∷ a) c [] d e = absurd (omega arith)
zip-append (x ∷ a) c (y ∷ b) d e = let f : length a ≡ length b = omega arith in ap (λ z. (x, y) ∷ z) (zip-append a c b d f)

-- the first parts of pairs of two lists of one length
pub firsts : {A B : Type 0} (xs : List A) (ys : List B) → length xs ≡ length ys → map (λ (t : A × B). t.0) (zip xs ys) ≡ xs
firsts [] ys e = refl
firsts (x ∷ xs) [] e = absurd (omega arith)
firsts (x ∷ xs) (y ∷ ys) e = let f : length xs ≡ length ys = omega arith in ap (λ z. x ∷ z) (firsts xs ys f)
