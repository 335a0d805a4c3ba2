-- Look-ups in a list that is seen through a function.
use Rattle.std.proofs.Common.{◌≡◌, ℕ, Bool, true, false, List, [], ◌∷◌, ◌++◌, ◌||◌, refl, ap, sym, subst, ◌∙◌, arith, map}
use Rattle.std.specs.Prelude.{position, bytes_eq, if◌then◌else◌}
use Rattle.std.specs.List.{list_any, position_or_len}
use Rattle.std.proofs.lemmas.List.{length-map, map-append}
use Rattle.wf_model.specs.Lists.{some}

pub some_any : {A : Type 0} (p : A → Bool) (xs : List A) → some p xs ≡ list_any p xs
some_any p [] = refl
some_any p (x ∷ xs) = ap (λ b. p x || b) (some_any p xs)

pub any_through : {A B : Type 0} (p : B → Bool) (f : A → B) (xs : List A) → list_any p (map f xs) ≡ list_any (λ x. p (f x)) xs
any_through p f [] = refl
any_through p f (x ∷ xs) = grind (arith, any_through p f xs)

pub some_through : {A B : Type 0} (p : B → Bool) (f : A → B) (xs : List A) → some p (map f xs) ≡ list_any (λ x. p (f x)) xs
some_through p f xs = some_any p (map f xs) ∙ any_through p f xs

pub place_through : {A B : Type 0} (p : B → Bool) (f : A → B) (xs : List A) → position_or_len p (map f xs) ≡ position_or_len (λ x. p (f x)) xs
place_through p f [] = refl
place_through p f (x ∷ xs) = grind (arith, place_through p f xs)

pub position_through : {A B : Type 0} (p : B → Bool) (f : A → B) (xs : List A) → position p (map f xs) ≡ position (λ x. p (f x)) xs
position_through p f xs = grind (arith, place_through p f xs, length-map)

-- a list of bytes that is not among those that are seen goes last
pub pushed : {A : Type 0} (f : A → List ℕ) (k : A) (q : List ℕ) (xs ys : List A) → f k ≡ q → some (bytes_eq q) (map f xs) ≡ false
    → ys ≡ (if list_any (λ x. bytes_eq (f k) (f x)) xs then xs else xs ++ k ∷ []) → map f ys ≡ map f xs ++ q ∷ []
pushed f k q xs ys same absent put =
    ap (map f) put ∙ by (list_any (λ x. bytes_eq (f k) (f x)) xs) (subst (λ b. list_any (λ x. bytes_eq b (f x)) xs ≡ false) (sym same) (sym (some_through (bytes_eq q) f xs) ∙ absent))
  where
    by : (b : Bool) → b ≡ false → map f (if b then xs else xs ++ k ∷ []) ≡ map f xs ++ q ∷ []
    by true never = absurd (cc)
    by false never = map-append f xs (k ∷ []) ∙ ap (λ b. map f xs ++ b ∷ []) same
