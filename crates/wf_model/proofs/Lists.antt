-- Lemmas on the words of specs/Lists.
use Rattle.std.proofs.Common.{◌≡◌, ℕ, zero, suc, ◌<◌, ◌⊎◌, Bool, true, false, cond, ◌||◌, List, [], ◌∷◌, ◌++◌, map, length, get_or, flat_map, filter, bytes_eq, refl, sym, ap, ◌∙◌, subst, inl, inr, ⊎_elim, arith, true≢false}
use Rattle.std.proofs.lemmas.Slice.Eq.{bytes_eq-Decides}
use Rattle.std.proofs.lemmas.Bool.{cases_Bool, or_cases, or_left, or_right}
use Rattle.wf_model.specs.Lists.{IsIn, IsAt, AllDiffer, some}

pub in_append_left : {A : Type 0} (x : A) (xs ys : List A) → IsIn x xs → IsIn x (xs ++ ys)
in_append_left x [] ys h = absurd h
in_append_left x (y ∷ xs) ys (inl e) = inl e
in_append_left x (y ∷ xs) ys (inr h) = inr (in_append_left x xs ys h)

pub in_append_right : {A : Type 0} (x : A) (xs ys : List A) → IsIn x ys → IsIn x (xs ++ ys)
in_append_right x [] ys h = h
in_append_right x (y ∷ xs) ys h = inr (in_append_right x xs ys h)

pub in_append_cases : {A : Type 0} (x : A) (xs ys : List A) → IsIn x (xs ++ ys) → IsIn x xs ⊎ IsIn x ys
in_append_cases x [] ys h = inr h
in_append_cases x (y ∷ xs) ys (inl e) = inl (inl e)
in_append_cases x (y ∷ xs) ys (inr h) = ⊎_elim (λ a. inl (inr a)) (λ b. inr b) (in_append_cases x xs ys h)

pub in_map : {A B : Type 0} (f : A → B) (x : A) (xs : List A) → IsIn x xs → IsIn (f x) (map f xs)
in_map f x [] h = absurd h
in_map f x (y ∷ xs) (inl e) = inl (ap f e)
in_map f x (y ∷ xs) (inr h) = inr (in_map f x xs h)

pub in_map_from : {A B : Type 0} (f : A → B) (y : B) (xs : List A) → IsIn y (map f xs) → (x : A) × IsIn x xs × (y ≡ f x)
in_map_from f y [] h = absurd h
in_map_from f y (x ∷ xs) (inl e) = (x, inl refl, e)
in_map_from f y (x ∷ xs) (inr h) = let r = in_map_from f y xs h in (r.0, inr r.1, r.2)

pub in_flat_map : {A B : Type 0} (f : A → List B) (x : A) (y : B) (xs : List A) → IsIn x xs → IsIn y (f x) → IsIn y (flat_map f xs)
in_flat_map f x y [] h k = absurd h
in_flat_map f x y (z ∷ xs) (inl e) k = in_append_left y (f z) (flat_map f xs) (subst (λ w. IsIn y (f w)) e k)
in_flat_map f x y (z ∷ xs) (inr h) k = in_append_right y (f z) (flat_map f xs) (in_flat_map f x y xs h k)

pub in_flat_map_from : {A B : Type 0} (f : A → List B) (y : B) (xs : List A) → IsIn y (flat_map f xs) → (x : A) × IsIn x xs × IsIn y (f x)
in_flat_map_from f y [] h = absurd h
in_flat_map_from f y (x ∷ xs) h =
    ⊎_elim (λ a. (x, inl refl, a)) (λ b. let r = in_flat_map_from f y xs b in (r.0, inr r.1, r.2)) (in_append_cases y (f x) (flat_map f xs) h)

pub some_from : {A : Type 0} (test : A → Bool) (x : A) (xs : List A) → IsIn x xs → test x ≡ true → some test xs ≡ true
some_from test x [] h t = absurd h
some_from test x (y ∷ xs) (inl e) t = or_left (test y) (some test xs) (ap test (sym e) ∙ t)
some_from test x (y ∷ xs) (inr h) t = or_right (test y) (some test xs) (some_from test x xs h t)

pub some_gives : {A : Type 0} (test : A → Bool) (xs : List A) → some test xs ≡ true → (x : A) × IsIn x xs × (test x ≡ true)
some_gives test [] h = absurd (true≢false (sym h))
some_gives test (y ∷ xs) h =
    ⊎_elim (λ a. (y, inl refl, a)) (λ b. let r = some_gives test xs b in (r.0, inr r.1, r.2)) (or_cases (test y) (some test xs) h)

pub same_bytes : (a b : List ℕ) → bytes_eq a b ≡ true → a ≡ b
same_bytes a b = (bytes_eq-Decides a b).0

pub bytes_same : (a b : List ℕ) → a ≡ b → bytes_eq a b ≡ true
bytes_same a b = (bytes_eq-Decides a b).1

-- a name is among those of a list, as a test
pub among_gives : (n : List ℕ) (ns : List (List ℕ)) → some (bytes_eq n) ns ≡ true → IsIn n ns
among_gives n ns h = let r = some_gives (bytes_eq n) ns h in subst (λ k. IsIn k ns) (sym (same_bytes n r.0 r.2)) r.1

pub among_from : (n : List ℕ) (ns : List (List ℕ)) → IsIn n ns → some (bytes_eq n) ns ≡ true
among_from n ns h = some_from (bytes_eq n) n ns h (bytes_same n n refl)

pub among_not : (n : List ℕ) (ns : List (List ℕ)) → some (bytes_eq n) ns ≡ false → IsIn n ns → ⊥
among_not n ns h k = true≢false (sym (among_from n ns k) ∙ h)

pub among_none : (n : List ℕ) (ns : List (List ℕ)) → (IsIn n ns → ⊥) → some (bytes_eq n) ns ≡ false
among_none n ns h = ⊎_elim (λ e. absurd (h (among_gives n ns e))) (λ e. e) (cases_Bool (some (bytes_eq n) ns))

pub filter_same : {A : Type 0} (p q : A → Bool) (xs : List A) → ((x : A) → IsIn x xs → p x ≡ q x) → filter p xs ≡ filter q xs
filter_same p q [] h = refl
filter_same p q (x ∷ xs) h =
    ap (λ b. cond b (x ∷ filter p xs) (filter p xs)) (h x (inl refl)) ∙ ap (λ ys. cond (q x) (x ∷ ys) ys) (filter_same p q xs (λ y i. h y (inr i)))

pub filter_all : {A : Type 0} (p : A → Bool) (xs : List A) → ((x : A) → IsIn x xs → p x ≡ true) → filter p xs ≡ xs
filter_all p [] h = refl
filter_all p (x ∷ xs) h =
    ap (λ b. cond b (x ∷ filter p xs) (filter p xs)) (h x (inl refl)) ∙ ap (λ ys. x ∷ ys) (filter_all p xs (λ y i. h y (inr i)))

pub filter_none : {A : Type 0} (p : A → Bool) (xs : List A) → ((x : A) → IsIn x xs → p x ≡ false) → filter p xs ≡ []
filter_none p [] h = refl
filter_none p (x ∷ xs) h =
    ap (λ b. cond b (x ∷ filter p xs) (filter p xs)) (h x (inl refl)) ∙ filter_none p xs (λ y i. h y (inr i))

-- a test that only kept elements pass is as good after the filter
pub some-filter : {A : Type 0} (t p : A → Bool) (xs : List A) → ((x : A) → t x ≡ true → p x ≡ true) → some t (filter p xs) ≡ some t xs
some-filter t p [] h = refl
some-filter {A} t p (x ∷ xs) h = go (some-filter t p xs h) (p x) refl
  where
    skip : (b : Bool) → t x ≡ b → p x ≡ false → some t xs ≡ t x || some t xs
    skip true e f = absurd (true≢false (sym (h x e) ∙ f))
    skip false e f = sym (ap (λ c. c || some t xs) e)

    go : some t (filter p xs) ≡ some t xs → (b : Bool) → p x ≡ b → some t (cond (p x) (x ∷ filter p xs) (filter p xs)) ≡ t x || some t xs
    go ih true e = ap (λ c. some t (cond c (x ∷ filter p xs) (filter p xs))) e ∙ ap (λ c. t x || c) ih
    go ih false e = ap (λ c. some t (cond c (x ∷ filter p xs) (filter p xs))) e ∙ (ih ∙ skip (t x) refl e)

pub in_filter : {A : Type 0} (p : A → Bool) (x : A) (xs : List A) → IsIn x xs → p x ≡ true → IsIn x (filter p xs)
in_filter p x [] h t = absurd h
in_filter p x (y ∷ xs) (inl e) t = subst (λ b. IsIn x (cond b (y ∷ filter p xs) (filter p xs))) (sym (ap p (sym e) ∙ t)) (inl e)
in_filter {A} p x (y ∷ xs) (inr h) t = go (in_filter p x xs h t) (p y)
  where
    go : IsIn x (filter p xs) → (b : Bool) → IsIn x (cond b (y ∷ filter p xs) (filter p xs))
    go k true = inr k
    go k false = k

pub in_filter_from : {A : Type 0} (p : A → Bool) (x : A) (xs : List A) → IsIn x (filter p xs) → IsIn x xs × (p x ≡ true)
in_filter_from p x [] h = absurd h
in_filter_from {A} p x (y ∷ xs) h = go (in_filter_from p x xs) (p y) refl h
  where
    go : (IsIn x (filter p xs) → IsIn x xs × (p x ≡ true)) → (b : Bool) → p y ≡ b → IsIn x (cond b (y ∷ filter p xs) (filter p xs)) → IsIn x (y ∷ xs) × (p x ≡ true)
    go ih true e (inl d) = (inl d, ap p d ∙ e)
    go ih true e (inr k) = let r = ih k in (inr r.0, r.1)
    go ih false e k = let r = ih k in (inr r.0, r.1)

pub among-append_other : (n : List ℕ) (ns ms : List (List ℕ)) → (IsIn n ms → ⊥) → some (bytes_eq n) (ns ++ ms) ≡ some (bytes_eq n) ns
among-append_other n [] ms h = go (some (bytes_eq n) ms) refl
  where
    go : (b : Bool) → some (bytes_eq n) ms ≡ b → some (bytes_eq n) ms ≡ false
    go true e = absurd (h (among_gives n ms e))
    go false e = e
among-append_other n (k ∷ ns) ms h = ap (λ b. bytes_eq n k || b) (among-append_other n ns ms h)

pub at_below : {A : Type 0} (x : A) (k : ℕ) (xs : List A) → IsAt x k xs → k < length xs
at_below x k [] h = absurd h
at_below x zero (y ∷ xs) h = omega arith
at_below x (suc k) (y ∷ xs) h = let r = at_below x k xs h in omega arith

pub at_is : {A : Type 0} (x : A) (k : ℕ) (xs : List A) (d : A) → IsAt x k xs → get_or xs k d ≡ x
at_is x k [] d h = absurd h
at_is x zero (y ∷ xs) d h = sym h
at_is x (suc k) (y ∷ xs) d h = at_is x k xs d h

pub is_at : {A : Type 0} (k : ℕ) (xs : List A) (d : A) → k < length xs → IsAt (get_or xs k d) k xs
is_at k [] d h = absurd (omega arith)
is_at zero (y ∷ xs) d h = refl
is_at (suc k) (y ∷ xs) d h = let r : k < length xs = omega arith in is_at k xs d r

pub at_in : {A : Type 0} (x : A) (k : ℕ) (xs : List A) → IsAt x k xs → IsIn x xs
at_in x k [] h = absurd h
at_in x zero (y ∷ xs) h = inl h
at_in x (suc k) (y ∷ xs) h = inr (at_in x k xs h)

pub in_at : {A : Type 0} (x : A) (xs : List A) → IsIn x xs → (k : ℕ) × IsAt x k xs
in_at x [] h = absurd h
in_at x (y ∷ xs) (inl e) = (0, e)
in_at x (y ∷ xs) (inr h) = let r = in_at x xs h in (suc r.0, r.1)

pub differ_at : {A : Type 0} (x : A) (j k : ℕ) (xs : List A) → AllDiffer xs → IsAt x j xs → IsAt x k xs → j ≡ k
differ_at x j k [] d h i = absurd h
differ_at x zero zero (y ∷ xs) d h i = refl
differ_at x zero (suc k) (y ∷ xs) d h i = absurd (d.0 (subst (λ z. IsIn z xs) h (at_in x k xs i)))
differ_at x (suc j) zero (y ∷ xs) d h i = absurd (d.0 (subst (λ z. IsIn z xs) i (at_in x j xs h)))
differ_at x (suc j) (suc k) (y ∷ xs) d h i = ap suc (differ_at x j k xs d.1 h i)
