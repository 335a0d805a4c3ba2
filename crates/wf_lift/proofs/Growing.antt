-- Lists that loops make, state by state and module by module.
use Rattle.std.proofs.Common.{◌≡◌, ℕ, suc, ◌+◌, ◌<◌, List, Vec, Global, [], ◌∷◌, ◌++◌, length, map, get_or, take, flat_map, refl, sym, ap, ◌∙◌, subst, arith}
use Rattle.std.proofs.lemmas.List.{append-nil, map-append, map_more, length-map}
use Rattle.std.proofs.lemmas.Grind.{flat_map-append}
use Rattle.wf_model.specs.Lists.{numbers_from}
use Rattle.wf_model.proofs.NumberLists.{numbers_from-last}
use Rattle.wf_model.proofs.Positions.{each_more}
use Rattle.wf_model.proofs.Joined.{value_more}

-- a list of what a function makes of one number more
pub map_numbers_more : {B : Type 0} (h : ℕ → B) (n : ℕ) → map h (numbers_from 0 (n + 1)) ≡ map h (numbers_from 0 n) ++ h n ∷ []
map_numbers_more h n =
    let e : n + 1 ≡ suc n = omega arith in
    let first : 0 + n ≡ n = omega arith in
    ap (λ k. map h (numbers_from 0 k)) e ∙ (ap (map h) (numbers_from-last 0 n) ∙ (map-append h (numbers_from 0 n) ((0 + n) ∷ []) ∙ ap (λ k. map h (numbers_from 0 n) ++ h k ∷ []) first))

-- one state more, in a list that is seen through a function
pub states_more : {A B : Type 0} (f : A → B) (h : ℕ → B) (old now new : List A) (a : A) (n : ℕ) → map f now ≡ map f old ++ map h (numbers_from 0 n) → f a ≡ h n → new ≡ now ++ a ∷ []
    → map f new ≡ map f old ++ map h (numbers_from 0 (n + 1))
states_more f h old now new a n so_far same is = value_more h n (map f old) (map f now) (map f new) (f a) so_far same (ap (map f) is ∙ map-append f now (a ∷ []))

-- lists of rows, each in a vector
pub table_more : (P : ℕ → List ℕ → Type 0) (old new : List (Vec ℕ Global)) (v : Vec ℕ Global) (n : ℕ) → length old ≡ n
    → ((m : ℕ) → m < n → P m (get_or (map (λ (r : Vec ℕ Global). r.items) old) m [])) → P n v.items → new ≡ old ++ v ∷ []
    → (m : ℕ) → m < n + 1 → P m (get_or (map (λ (r : Vec ℕ Global). r.items) new) m [])
table_more P old new v n size all last is m low =
    let items = λ (r : Vec ℕ Global). r.items in
    subst (λ (l : List (List ℕ)). P m (get_or l m [])) (sym (ap (map items) is ∙ map-append items old (v ∷ [])))
    (each_more P (map items old) n v.items [] (length-map old items ∙ size) all last m low)

-- what one function makes of what another makes, at once
pub made_at_once : {A B C : Type 0} (f : B → C) (g : A → B) (xs : List A) → map (λ x. f (g x)) xs ≡ map f (map g xs)
made_at_once f g [] = refl
made_at_once f g (x ∷ xs) = ap (λ ys. f (g x) ∷ ys) (made_at_once f g xs)

-- one element more of what a function makes of those of a list, one by one
pub made_more : {A B : Type 0} (f : A → B) (old new : List B) (made : B) (xs : List A) (i : ℕ) (x : A) → old ≡ map f (take i xs) → made ≡ f x
    → x ≡ get_or xs i x → i < length xs → new ≡ old ++ made ∷ [] → new ≡ map f (take (i + 1) xs)
made_more f old new made xs i x so_far same was inside is =
    is ∙ (ap (λ ys. ys ++ made ∷ []) so_far ∙ (ap (λ y. map f (take i xs) ++ y ∷ []) (same ∙ ap f was) ∙ sym (map_more f xs i x inside)))

-- and of several that it makes of each, in lists that are seen through functions
pub joined_more : {A B C D : Type 0} (f : C → D) (h : B → List D) (g : A → B) (old new : List C) (xs : List A) (i : ℕ) (d : A) → map f old ≡ flat_map h (map g (take i xs))
    → map f new ≡ map f old ++ h (g (get_or xs i d)) → i < length xs → map f new ≡ flat_map h (map g (take (i + 1) xs))
joined_more f h g old new xs i d so_far is inside =
    let x = get_or xs i d in
    let before = map g (take i xs) in
    is
    ∙ (ap (λ ds. ds ++ h (g x)) so_far
    ∙ sym (ap (flat_map h) (map_more g xs i d inside) ∙ (flat_map-append h before (g x ∷ []) ∙ ap (λ ds. flat_map h before ++ ds) (append-nil (h (g x))))))
