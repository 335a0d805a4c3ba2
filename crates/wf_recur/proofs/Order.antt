-- Lists in order: each element stands before all later ones.
use Rattle.std.proofs.Common.{ℕ, zero, suc, ◌<◌, Bool, true, false, cond, List, [], ◌∷◌, ◌++◌, map, flat_map, filter, refl, sym, subst, inl, inr, ⊎_elim}
use Rattle.wf_model.specs.Lists.{IsIn, numbers_from}
use Rattle.wf_model.proofs.Lists.{in_append_cases, in_map_from, in_filter_from, in_flat_map_from}
use Rattle.wf_model.proofs.NumberLists.{from_first}

abbrev pub InOrder : {A : Type 0} → (A → A → Type 0) → List A → Type 0
InOrder R [] = Unit {0}
InOrder {A} R (x ∷ xs) = ((y : A) → IsIn y xs → R x y) × InOrder R xs

pub numbers_in_order : (k n : ℕ) → InOrder (λ (a b : ℕ). a < b) (numbers_from k n)
numbers_in_order k zero = tt
numbers_in_order k (suc n) = (λ y i. from_first y (suc k) n i, numbers_in_order (suc k) n)

pub filter_in_order : {A : Type 0} (R : A → A → Type 0) (test : A → Bool) (xs : List A) → InOrder R xs → InOrder R (filter test xs)
filter_in_order R test [] h = tt
filter_in_order {A} R test (x ∷ xs) h = go (filter_in_order R test xs h.1) (test x)
  where
    go : InOrder R (filter test xs) → (b : Bool) → InOrder R (cond b (x ∷ filter test xs) (filter test xs))
    go rest true = (λ y i. h.0 y (in_filter_from test y xs i).0, rest)
    go rest false = rest

pub map_in_order : {A B : Type 0} (R : A → A → Type 0) (S : B → B → Type 0) (f : A → B) → ((x y : A) → R x y → S (f x) (f y)) → (xs : List A) → InOrder R xs → InOrder S (map f xs)
map_in_order R S f keeps [] h = tt
map_in_order R S f keeps (x ∷ xs) h = (
  λ y i. (let r = in_map_from f y xs i in subst (S (f x)) (sym r.2) (keeps x r.0 (h.0 r.0 r.1))),
  map_in_order R S f keeps xs h.1,
)

append_in_order : {A : Type 0} (R : A → A → Type 0) (xs ys : List A) → InOrder R xs → InOrder R ys → ((x y : A) → IsIn x xs → IsIn y ys → R x y) → InOrder R (xs ++ ys)
append_in_order R [] ys h i across = i
append_in_order R (x ∷ xs) ys h i across = (
  λ y j. ⊎_elim (λ a. h.0 y a) (λ b. across x y (inl refl) b) (in_append_cases y xs ys j),
  append_in_order R xs ys h.1 i (λ a b j k. across a b (inr j) k),
)

pub flat_in_order : {A B : Type 0} (R : A → A → Type 0) (S : B → B → Type 0) (f : A → List B) → ((x : A) → InOrder S (f x)) → ((x y : A) (u v : B) → R x y → IsIn u (f x) → IsIn v (f y) → S u v) → (xs : List A) → InOrder R xs → InOrder S (flat_map f xs)
flat_in_order R S f each across [] h = tt
flat_in_order R S f each across (x ∷ xs) h =
    append_in_order S (f x) (flat_map f xs) (each x) (flat_in_order R S f each across xs h.1)
    (λ u v i j. (let r = in_flat_map_from f v xs j in across x r.0 u v (h.0 r.0 r.1) i r.2))
