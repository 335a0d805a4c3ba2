-- Lists whose elements differ: they are no longer than a list that has all their elements.
use Rattle.std.proofs.Common.{◌≡◌, ℕ, zero, suc, ◌<◌, ◌≤◌, Bool, true, false, cond, List, [], ◌∷◌, ◌++◌, map, length, filter, count_by, refl, sym, ap, subst, inl, inr, ⊎_elim, arith, length-append}
use Rattle.std.proofs.lemmas.List.Sums.{length-filter}
use Rattle.wf_model.specs.Lists.{IsIn, IsAt, AllDiffer, numbers_from}
use Rattle.wf_model.proofs.Lists.{in_map, in_map_from, in_append_left, in_append_right, in_append_cases, in_filter, in_filter_from, in_at}
use Rattle.wf_model.proofs.Level.{numbers_in}
use Rattle.wf_model.proofs.Positions.{parted}

-- elements that differ are no more than the elements of a list that has them all
pub no_more : {A : Type 0} (xs ys : List A) → AllDiffer xs → ((x : A) → IsIn x xs → IsIn x ys) → length xs ≤ length ys
no_more [] ys d h = omega arith
no_more {A} (x ∷ xs) ys d h =
    let s = parted x ys (h x (inl refl)) in
    let rest : (z : A) → IsIn z xs → IsIn z (s.0 ++ s.1) = λ z i.
    ⊎_elim (λ a. in_append_left z s.0 s.1 a)
    (λ b. ⊎_elim (λ (e : z ≡ x). absurd (d.0 (subst (λ w. IsIn w xs) e i))) (λ c. in_append_right z s.0 s.1 c) b)
    (in_append_cases z s.0 (x ∷ s.1) (subst (λ l. IsIn z l) s.2 (h z (inr i)))) in
    let r = no_more xs (s.0 ++ s.1) d.1 rest in
    omega (arith, r, ap length s.2, length-append s.0 (x ∷ s.1), length-append s.0 s.1)

-- numbers below n that differ and pass a test are no more than those that pass
pub no_more_below : (p : ℕ → Bool) (n : ℕ) (xs : List ℕ) → AllDiffer xs → ((x : ℕ) → IsIn x xs → (x < n) × (p x ≡ true)) → length xs ≤ count_by p (numbers_from 0 n)
no_more_below p n xs d h =
    let r = no_more xs (filter p (numbers_from 0 n)) d (λ x i. in_filter p x (numbers_from 0 n) (let q = (h x i).0 in numbers_in x 0 n (omega arith) (omega arith)) (h x i).1) in
    omega (arith, r, length-filter p (numbers_from 0 n))

-- numbers that grow differ
pub in_order_differ : (xs : List ℕ) → ((j k a b : ℕ) → j < k → IsAt a j xs → IsAt b k xs → a < b) → AllDiffer xs
in_order_differ [] h = tt
in_order_differ (x ∷ xs) h = (
  (λ i. let k = in_at x xs i in let l : x < x = h 0 (suc k.0) x x (omega arith) refl k.1 in absurd (omega arith)),
  in_order_differ xs (λ j k a b l p q. h (suc j) (suc k) a b (omega arith) p q),
)

pub numbers_differ : (k n : ℕ) → AllDiffer (numbers_from k n)
numbers_differ k zero = tt
numbers_differ k (suc n) = ((λ i. over k (suc k) n i (omega arith)), numbers_differ (suc k) n)
  where
    over : (x j n : ℕ) → IsIn x (numbers_from j n) → x < j → ⊥
    over x j zero i l = i
    over x j (suc n) (inl e) l = absurd (omega arith)
    over x j (suc n) (inr i) l = over x (suc j) n i (omega arith)

pub differ_filter : (p : ℕ → Bool) (xs : List ℕ) → AllDiffer xs → AllDiffer (filter p xs)
differ_filter p [] d = tt
differ_filter p (x ∷ xs) d = go (p x) (differ_filter p xs d.1)
  where
    go : (b : Bool) → AllDiffer (filter p xs) → AllDiffer (cond b (x ∷ filter p xs) (filter p xs))
    go true r = ((λ i. d.0 (in_filter_from p x xs i).0), r)
    go false r = r

-- lists that differ, and have nothing in common
pub differ-append : {A : Type 0} (xs ys : List A) → AllDiffer xs → AllDiffer ys → ((y : A) → IsIn y xs → IsIn y ys → ⊥) → AllDiffer (xs ++ ys)
differ-append [] ys d e h = e
differ-append (x ∷ xs) ys d e h = ((λ i. ⊎_elim d.0 (λ j. h x (inl refl) j) (in_append_cases x xs ys i)), differ-append xs ys d.1 e (λ y i j. h y (inr i) j))

-- and the two parts of such a list
pub differ_parts : {A : Type 0} (xs ys : List A) → AllDiffer (xs ++ ys) → AllDiffer xs × AllDiffer ys × ((y : A) → IsIn y xs → IsIn y ys → ⊥)
differ_parts [] ys d = (tt, d, (λ y i j. i))
differ_parts {A} (x ∷ xs) ys d =
    let r = differ_parts xs ys d.1 in (
      ((λ i. d.0 (in_append_left x xs ys i)), r.0),
      r.1,
      (λ y i j. ⊎_elim (λ (e : y ≡ x). d.0 (in_append_right x xs ys (subst (λ z. IsIn z ys) e j))) (λ k. r.2 y k j) i),
    )

-- a map that keeps members apart
pub differ_map : {A B C : Type 0} (f : A → B) (h : A → C) (xs : List A) → AllDiffer (map f xs) → ((x y : A) → IsIn x xs → IsIn y xs → h x ≡ h y → f x ≡ f y) → AllDiffer (map h xs)
differ_map f h [] d k = tt
differ_map f h (x ∷ xs) d k = ((λ i. let r = in_map_from h (h x) xs i in d.0 (subst (λ z. IsIn z (map f xs)) (sym (k x r.0 (inl refl) (inr r.1) r.2)) (in_map f r.0 xs r.1))), differ_map f h xs d.1 (λ y z i j. k y z (inr i) (inr j)))
