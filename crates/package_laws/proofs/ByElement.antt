-- Lists that come back element by element.
use Rattle.std.proofs.Common.{◌≡◌, ℕ, ◌<◌, List, [], ◌∷◌, length, get_or, map, refl, ap, ◌∙◌, subst, inl, inr, arith}
use Rattle.std.specs.List.{zip}
use Rattle.wf_model.specs.Lists.{IsIn, AllDiffer}
use Rattle.wf_model.proofs.Lists.{in_at, at_is, at_below}
use Rattle.wf_model.proofs.Mapping.{map_same}
use Rattle.wf_spec.specs.Naming.{place_of}
use Rattle.wf_spec.proofs.Finding.{place_first, place_later}

-- each element comes back
pub map_back : {A B : Type 0} (f : B → A) (h : A → B) (xs : List A) → ((x : A) → IsIn x xs → f (h x) ≡ x) → map f (map h xs) ≡ xs
map_back f h [] same = refl
map_back f h (x ∷ xs) same = ap (λ y. y ∷ map f (map h xs)) (same x (inl refl)) ∙ ap (λ ys. x ∷ ys) (map_back f h xs (λ y i. same y (inr i)))

-- of pairs of a name and an element, each element comes back
pub seconds_back : {A B : Type 0} (f : B → A) (h : List ℕ × A → B) (ns : List (List ℕ)) (xs : List A) →
    length xs ≡ length ns → ((n : List ℕ) (x : A) → IsIn x xs → f (h (n, x)) ≡ x) → map f (map h (zip ns xs)) ≡ xs
seconds_back f h [] [] e same = refl
seconds_back f h [] (x ∷ xs) e same = absurd (omega arith)
seconds_back f h (n ∷ ns) [] e same = absurd (omega arith)
seconds_back f h (n ∷ ns) (x ∷ xs) e same =
    ap (λ y. y ∷ map f (map h (zip ns xs))) (same n x (inl refl))
    ∙ ap (λ ys. x ∷ ys) (seconds_back f h ns xs (omega arith) (λ m y i. same m y (inr i)))

-- and each name
pub firsts_back : {A B : Type 0} (f : B → List ℕ) (h : List ℕ × A → B) (ns : List (List ℕ)) (xs : List A) →
    length xs ≡ length ns → ((n : List ℕ) (x : A) → f (h (n, x)) ≡ n) → map f (map h (zip ns xs)) ≡ ns
firsts_back f h [] [] e same = refl
firsts_back f h [] (x ∷ xs) e same = absurd (omega arith)
firsts_back f h (n ∷ ns) [] e same = absurd (omega arith)
firsts_back f h (n ∷ ns) (x ∷ xs) e same =
    ap (λ y. y ∷ map f (map h (zip ns xs))) (same n x) ∙ ap (λ ys. n ∷ ys) (firsts_back f h ns xs (omega arith) same)

-- what stands at the places of names that differ, one after another
pub by_place : {A : Type 0} (ns : List (List ℕ)) (xs : List A) (d : A) → AllDiffer ns → length xs ≡ length ns →
    map (λ n. get_or xs (place_of ns n) d) ns ≡ xs
by_place [] [] d differ e = refl
by_place [] (x ∷ xs) d differ e = absurd (omega arith)
by_place (n ∷ ns) [] d differ e = absurd (omega arith)
by_place (n ∷ ns) (x ∷ xs) d differ e =
    let here = λ (m : List ℕ). get_or (x ∷ xs) (place_of (n ∷ ns) m) d in
    let first : here n ≡ x = ap (λ k. get_or (x ∷ xs) k d) (place_first ns n n refl) in
    let later : map here ns ≡ map (λ m. get_or xs (place_of ns m) d) ns =
    map_same here (λ m. get_or xs (place_of ns m) d) ns
    (λ m i. ap (λ k. get_or (x ∷ xs) k d) (place_later ns n m (λ q. differ.0 (subst (λ z. IsIn z ns) q i)))) in
    ap (λ y. y ∷ map here ns) first ∙ ap (λ ys. x ∷ ys) (later ∙ by_place ns xs d differ.1 (omega arith))

-- a pair of two lists has an element of each
pub in_zip : {A B : Type 0} (xs : List A) (ys : List B) (e : A × B) → IsIn e (zip xs ys) → IsIn e.0 xs × IsIn e.1 ys
in_zip [] ys e i = absurd i
in_zip (x ∷ xs) [] e i = absurd i
in_zip (x ∷ xs) (y ∷ ys) e (inl q) = (inl (ap (λ p. p.0) q), inl (ap (λ p. p.1) q))
in_zip (x ∷ xs) (y ∷ ys) e (inr i) = let r = in_zip xs ys e i in (inr r.0, inr r.1)

-- what holds at each place holds of each element
pub of_each : {A : Type 0} (P : A → Type 0) (xs : List A) (d : A) → ((k : ℕ) → k < length xs → P (get_or xs k d)) → (x : A) → IsIn x xs → P x
of_each P xs d all x i = let k = in_at x xs i in subst P (at_is x k.0 xs d k.1) (all k.0 (at_below x k.0 xs k.1))
