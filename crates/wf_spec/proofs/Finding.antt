-- Places of names.
use Rattle.wf_spec.proofs.Tables.{get_in}
use Rattle.wf_model.specs.Lists.{AllDiffer, IsIn, IsAt}
use Rattle.std.proofs.Common.{zero, ◌≡◌, ℕ, suc, ◌+◌, ◌<◌, ◌≤◌, Bool, true, false, cond, nat_lt, not, List, [], ◌∷◌, map, length, Option, Some, None, bytes_eq, refl, sym, ◌∙◌, subst, inl, inr, arith, get_or, ap, true≢false}
use Rattle.std.specs.Prelude.{MatchOption, position, IsSome}
use Rattle.std.proofs.lemmas.Bool.{ltb-true, ltb-false}
use Rattle.std.proofs.lemmas.List.{length-map}
use Rattle.wf_names.proofs.Found.{position_through}
use Rattle.wf_model.proofs.Lists.{same_bytes, bytes_same, at_is}
use Rattle.wf_spec.specs.Naming.{place_of, names_of}
use Rattle.wf_model.specs.Grammar.{Module}

-- what a search answers is the place of the name, or nothing where the name is not there
pub place_found : (names : List (List ℕ)) (name : List ℕ) (answer : Option ℕ) → answer ≡ position (bytes_eq name) names
    → MatchOption answer (length names ≤ place_of names name) (λ k. (k ≡ place_of names name) × (k < length names))
place_found names name answer is =
    subst (λ o. MatchOption o (length names ≤ place_of names name) (λ k. (k ≡ place_of names name) × (k < length names))) (sym is)
    (by (nat_lt (place_of names name) (length names)) refl)
  where
    by : (b : Bool) → nat_lt (place_of names name) (length names) ≡ b
        → MatchOption (cond b (Some (place_of names name)) None) (length names ≤ place_of names name) (λ k. (k ≡ place_of names name) × (k < length names))
    by true is = (refl, ltb-true (place_of names name) (length names) is)
    by false is = ltb-false (place_of names name) (length names) is

pub absent : (names : List (List ℕ)) (name : List ℕ) (answer : Option ℕ) → answer ≡ position (bytes_eq name) names → answer ≡ None → length names ≤ place_of names name
absent names name answer is none =
    subst (λ o. MatchOption o (length names ≤ place_of names name) (λ k. (k ≡ place_of names name) × (k < length names))) none (place_found names name answer is)

pub present : (names : List (List ℕ)) (name : List ℕ) (answer : Option ℕ) (k : ℕ) → answer ≡ position (bytes_eq name) names → answer ≡ Some k
    → (k ≡ place_of names name) × (k < length names)
present names name answer k is some =
    subst (λ o. MatchOption o (length names ≤ place_of names name) (λ k. (k ≡ place_of names name) × (k < length names))) some (place_found names name answer is)

-- the same in a list of things that have names
pub absent_in : {A : Type 0} (f : A → List ℕ) (xs : List A) (name : List ℕ) (answer : Option ℕ) → answer ≡ position (λ x. bytes_eq name (f x)) xs → answer ≡ None
    → length xs ≤ place_of (map f xs) name
absent_in f xs name answer is none =
    subst (λ n. n ≤ place_of (map f xs) name) (length-map xs f) (absent (map f xs) name answer (is ∙ sym (position_through (bytes_eq name) f xs)) none)

pub present_in : {A : Type 0} (f : A → List ℕ) (xs : List A) (name : List ℕ) (answer : Option ℕ) (k : ℕ) → answer ≡ position (λ x. bytes_eq name (f x)) xs → answer ≡ Some k
    → (k ≡ place_of (map f xs) name) × (k < length xs)
present_in f xs name answer k is some =
    let r = present (map f xs) name answer k (is ∙ sym (position_through (bytes_eq name) f xs)) some in
    (r.0, subst (λ n. k < n) (length-map xs f) r.1)

-- a name that has a place stands there
pub is_in_place : (names : List (List ℕ)) (name : List ℕ) → place_of names name < length names → IsIn name names
is_in_place [] name h = absurd (omega arith)
is_in_place (n ∷ names) name h = by (is_in_place names name) (bytes_eq name n) refl h
  where
    by : (place_of names name < length names → IsIn name names) → (b : Bool) → bytes_eq name n ≡ b → cond (not b) (1 + place_of names name) 0 < suc (length names) → IsIn name (n ∷ names)
    by rest true same h = inl (same_bytes name n same)
    by rest false other h = inr (rest (omega arith))

-- a name that is there has a place
pub place_within : (names : List (List ℕ)) (name : List ℕ) → IsIn name names → place_of names name < length names
place_within [] name h = absurd h
place_within (n ∷ names) name (inl e) = subst (λ b. cond (not b) (1 + place_of names name) 0 < suc (length names)) (sym (bytes_same name n e)) (omega arith)
place_within (n ∷ names) name (inr h) = by (bytes_eq name n) (place_within names name h)
  where
    by : (b : Bool) → place_of names name < length names → cond (not b) (1 + place_of names name) 0 < suc (length names)
    by true r = omega arith
    by false r = omega arith

pub place_first : (names : List (List ℕ)) (m n : List ℕ) → n ≡ m → place_of (m ∷ names) n ≡ 0
place_first names m n e = ap (λ b. cond (not b) (1 + place_of names n) 0) (bytes_same n m e)

pub place_later : (names : List (List ℕ)) (m n : List ℕ) → (n ≡ m → ⊥) → place_of (m ∷ names) n ≡ suc (place_of names n)
place_later names m n h = by (bytes_eq n m) refl
  where
    by : (b : Bool) → bytes_eq n m ≡ b → cond (not b) (1 + place_of names n) 0 ≡ suc (place_of names n)
    by true e = absurd (h (same_bytes n m e))
    by false e = omega arith

-- a name that is there stands at its place
pub at_place : (names : List (List ℕ)) (n : List ℕ) → IsIn n names → IsAt n (place_of names n) names
at_place [] n h = absurd h
at_place (m ∷ names) n h = by (at_place names n) (bytes_eq n m) refl h
  where
    by : (IsIn n names → IsAt n (place_of names n) names) → (b : Bool) → bytes_eq n m ≡ b → IsIn n (m ∷ names) → IsAt n (place_of (m ∷ names) n) (m ∷ names)
    by later true e h = subst (λ k. IsAt n k (m ∷ names)) (sym (place_first names m n (same_bytes n m e))) (same_bytes n m e)
    by later false e (inl d) = absurd (true≢false (sym (bytes_same n m d) ∙ e))
    by later false e (inr h) = subst (λ k. IsAt n k (m ∷ names)) (sym (place_later names m n (λ d. true≢false (sym (bytes_same n m d) ∙ e)))) (later h)

-- so two names that are there have different places
pub same_name : (names : List (List ℕ)) (n m : List ℕ) → IsIn n names → IsIn m names → place_of names n ≡ place_of names m → n ≡ m
same_name names n m a b e =
    sym (at_is n (place_of names n) names [] (at_place names n a)) ∙ (ap (λ k. get_or names k []) e ∙ at_is m (place_of names m) names [] (at_place names m b))

-- a name that a search does not find is not there
pub not_found : (names : List (List ℕ)) (name : List ℕ) (answer : Option ℕ) → answer ≡ position (bytes_eq name) names → answer ≡ None → IsIn name names → ⊥
not_found names name answer is none here =
    let a = place_within names name here in
    let b = absent names name answer is none in
    absurd (omega arith)

-- a name that it finds is there
pub found_there : (names : List (List ℕ)) (name : List ℕ) (answer : Option ℕ) (k : ℕ) → answer ≡ position (bytes_eq name) names → answer ≡ Some k
    → (k ≡ place_of names name) × IsIn name names
found_there names name answer k is some =
    let r = present names name answer k is some in
    (r.0, is_in_place names name (subst (λ j. j < length names) r.0 r.1))

-- a name that is there is found
pub is_found : (names : List (List ℕ)) (name : List ℕ) (answer : Option ℕ) → answer ≡ position (bytes_eq name) names → IsIn name names → IsSome answer
is_found names name answer is here = by answer is
  where
    by : (o : Option ℕ) → o ≡ position (bytes_eq name) names → IsSome o
    by None e = absurd (not_found names name None e refl here)
    by (Some k) e = refl

-- a module that is named has a number, and its number names it
pub number_below : (modules : List Module) (n : List ℕ) → IsIn n (names_of modules) → place_of (names_of modules) n < length modules
number_below modules n h = subst (λ k. place_of (names_of modules) n < k) (length-map modules (λ (m : Module). m.name)) (place_within (names_of modules) n h)

pub below_number : (modules : List Module) (n : List ℕ) → place_of (names_of modules) n < length modules → IsIn n (names_of modules)
below_number modules n h = is_in_place (names_of modules) n (subst (λ k. place_of (names_of modules) n < k) (sym (length-map modules (λ (m : Module). m.name))) h)

-- where names differ, each stands at its place only
pub place_at : (names : List (List ℕ)) (k : ℕ) → AllDiffer names → k < length names → place_of names (get_or names k []) ≡ k
place_at [] k d h = absurd (omega arith)
place_at (n ∷ names) zero d h = ap (λ b. cond {A = ℕ} (not b) (1 + place_of names n) 0) (bytes_same n n refl)
place_at (n ∷ names) (suc k) d h = by (place_at names k d.1 (omega arith)) (bytes_eq (get_or names k []) n) refl
  where
    by : place_of names (get_or names k []) ≡ k → (b : Bool) → bytes_eq (get_or names k []) n ≡ b → cond {A = ℕ} (not b) (1 + place_of names (get_or names k [])) 0 ≡ suc k
    by rest true e = absurd (d.0 (subst (λ m. IsIn m names) (same_bytes (get_or names k []) n e) (get_in k names [] (omega arith))))
    by rest false e = omega arith
