-- Sums over different numbers that are places of a list are within the sum over the list.
use Rattle.std.proofs.Common.{◌≡◌, ℕ, zero, suc, ◌+◌, ◌<◌, ◌≤◌, List, [], ◌∷◌, ◌++◌, map, length, get_or, sum_by, refl, sym, ap, ◌∙◌, subst, inl, inr, ⊎_elim, arith}
use Rattle.std.proofs.lemmas.List.Sums.{sum_by-cons, sum_by-append}
use Rattle.wf_model.specs.Lists.{IsIn, AllDiffer, numbers_from}
use Rattle.wf_model.proofs.Lists.{in_append_left, in_append_right, in_append_cases}
use Rattle.wf_model.proofs.Level.{numbers_in}
use Rattle.wf_model.proofs.Positions.{parted}

-- elements that differ have no greater sum than a list that has them all
sum_within : {A : Type 0} (f : A → ℕ) (xs ys : List A) → AllDiffer xs → ((x : A) → IsIn x xs → IsIn x ys) → sum_by f xs ≤ sum_by f ys
sum_within f [] ys d h = omega arith
sum_within {A} f (x ∷ xs) ys d h =
    let s = parted x ys (h x (inl refl)) in
    let rest : (z : A) → IsIn z xs → IsIn z (s.0 ++ s.1) = λ z i.
    ⊎_elim (λ a. in_append_left z s.0 s.1 a)
    (λ b. ⊎_elim (λ (e : z ≡ x). absurd (d.0 (subst (λ w. IsIn w xs) e i))) (λ c. in_append_right z s.0 s.1 c) b)
    (in_append_cases z s.0 (x ∷ s.1) (subst (λ l. IsIn z l) s.2 (h z (inr i)))) in
    let r = sum_within f xs (s.0 ++ s.1) d.1 rest in
    omega (arith, r, sum_by-cons f x xs, ap (sum_by f) s.2, sum_by-append f s.0 (x ∷ s.1), sum_by-cons f x s.1, sum_by-append f s.0 s.1)

pub sum_map : {A B : Type 0} (f : B → ℕ) (m : A → B) (xs : List A) → sum_by f (map m xs) ≡ sum_by (λ x. f (m x)) xs
sum_map f m [] = refl
sum_map f m (x ∷ xs) = sum_by-cons f (m x) (map m xs) ∙ (ap (λ z. f (m x) + z) (sum_map f m xs) ∙ sym (sum_by-cons (λ x. f (m x)) x xs))

pub sum_same : {A : Type 0} (f h : A → ℕ) (xs : List A) → ((x : A) → f x ≡ h x) → sum_by f xs ≡ sum_by h xs
sum_same f h [] q = refl
sum_same f h (x ∷ xs) q = sum_by-cons f x xs ∙ (ap (λ z. z + sum_by f xs) (q x) ∙ (ap (λ z. h x + z) (sum_same f h xs q) ∙ sym (sum_by-cons h x xs)))

pub numbers_shift : (c n : ℕ) → numbers_from (suc c) n ≡ map suc (numbers_from c n)
numbers_shift c zero = refl
numbers_shift c (suc n) = ap (λ l. suc c ∷ l) (numbers_shift (suc c) n)

-- a list is summed by its places
sum_places : {A : Type 0} (f : A → ℕ) (xs : List A) (d : A) → sum_by (λ k. f (get_or xs k d)) (numbers_from 0 (length xs)) ≡ sum_by f xs
sum_places f [] d = refl
sum_places f (x ∷ xs) d =
    sum_by-cons (λ k. f (get_or (x ∷ xs) k d)) 0 (numbers_from 1 (length xs)) ∙
    (ap (λ l. f x + sum_by (λ k. f (get_or (x ∷ xs) k d)) l) (numbers_shift 0 (length xs)) ∙
    (ap (λ z. f x + z) (sum_map (λ k. f (get_or (x ∷ xs) k d)) suc (numbers_from 0 (length xs)) ∙ sum_places f xs d) ∙ sym (sum_by-cons f x xs)))

pub sum_at_places : {A : Type 0} (f : A → ℕ) (xs : List A) (d : A) (ks : List ℕ) → AllDiffer ks → ((k : ℕ) → IsIn k ks → k < length xs) → sum_by (λ k. f (get_or xs k d)) ks ≤ sum_by f xs
sum_at_places f xs d ks differ below =
    let r = sum_within (λ k. f (get_or xs k d)) ks (numbers_from 0 (length xs)) differ (λ k i. let l = below k i in numbers_in k 0 (length xs) (omega arith) (omega arith)) in
    omega (arith, r, sum_places f xs d)
