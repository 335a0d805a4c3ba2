-- Lists of the same elements: their sums and their lengths.
use Rattle.std.proofs.Common.{◌≡◌, ℕ, suc, ◌+◌, List, [], ◌∷◌, ◌++◌, length, refl, sym, ap, ◌∙◌, subst, inl, inr, ⊎_elim, arith}
use Rattle.std.specs.Prelude.{sum_by}
use Rattle.std.proofs.lemmas.List.{length-append}
use Rattle.std.proofs.lemmas.List.Sums.{sum_by-append, sum_by-cons}
use Rattle.wf_model.specs.Lists.{IsIn, AllDiffer}
use Rattle.wf_model.proofs.Lists.{in_append_left, in_append_right, in_append_cases}
use Rattle.wf_spec.proofs.Once.{apart_from, still_in, differ_without, differ_with}
use Rattle.wf_model.proofs.Positions.{parted}

sum_parted : {A : Type 0} (f : A → ℕ) (x : A) (l r : List A) → sum_by f (l ++ x ∷ r) ≡ f x + sum_by f (l ++ r)
sum_parted f x l r =
    let a = sum_by-append f l (x ∷ r) in
    let b = sum_by-append f l r in
    let c = sum_by-cons f x r in
    omega arith

length_parted : {A : Type 0} (x : A) (l r : List A) → length (l ++ x ∷ r) ≡ suc (length (l ++ r))
length_parted x l r =
    let a = length-append l (x ∷ r) in
    let b = length-append l r in
    omega arith

-- two lists of the same elements have the same sums
pub same_sums : {A : Type 0} (f : A → ℕ) (xs ys : List A) → AllDiffer xs → AllDiffer ys → ((x : A) → IsIn x xs → IsIn x ys) → ((y : A) → IsIn y ys → IsIn y xs) → sum_by f xs ≡ sum_by f ys
same_sums f [] [] a b g h = refl
same_sums f [] (y ∷ ys) a b g h = absurd (h y (inl refl))
same_sums {A} f (x ∷ xs) ys a b g h =
    let p = parted x ys (g x (inl refl)) in
    let l = p.0 in let r = p.1 in
    let w = differ_without x l r (subst AllDiffer p.2 b) in
    let rest : sum_by f xs ≡ sum_by f (l ++ r) = same_sums f xs (l ++ r) a.1 w.0
    (λ z i. apart_from x z l r (subst (IsIn z) p.2 (g z (inr i))) (λ e. a.0 (subst (λ k. IsIn k xs) e i)))
    (λ z i. ⊎_elim (λ e. absurd (w.1 (subst (λ k. IsIn k (l ++ r)) e i))) (λ j. j) (h z (subst (IsIn z) (sym p.2) (still_in x z l r i)))) in
    sum_by-cons f x xs ∙ ap (λ n. f x + n) rest ∙ sym (ap (sum_by f) p.2 ∙ sum_parted f x l r)

-- and the same length
pub same_length : {A : Type 0} (xs ys : List A) → AllDiffer xs → AllDiffer ys → ((x : A) → IsIn x xs → IsIn x ys) → ((y : A) → IsIn y ys → IsIn y xs) → length xs ≡ length ys
same_length {A} xs ys a b g h = sym (ones xs) ∙ same_sums (λ (x : A). 1) xs ys a b g h ∙ ones ys
  where
    ones : (zs : List A) → sum_by (λ (x : A). 1) zs ≡ length zs
    ones [] = refl
    ones (z ∷ zs) = let e = ones zs in let c = sum_by-cons (λ (x : A). 1) z zs in omega arith

-- a list that is as long as one whose elements differ, and has them all, has them once each and no others
pub filled : {A : Type 0} (xs ys : List A) → AllDiffer xs → ((x : A) → IsIn x xs → IsIn x ys) → length ys ≡ length xs → AllDiffer ys × ((y : A) → IsIn y ys → IsIn y xs)
filled [] [] a g n = (tt, λ y h. h)
filled [] (y ∷ ys) a g n = absurd (omega arith)
filled (x ∷ xs) ys a g n =
    let p = parted x ys (g x (inl refl)) in
    let l = p.0 in let r = p.1 in
    let k : length (l ++ r) ≡ length xs = (let e = length_parted x l r in let f = ap length p.2 in omega arith) in
    let w = filled xs (l ++ r) a.1 (λ z i. apart_from x z l r (subst (IsIn z) p.2 (g z (inr i))) (λ e. a.0 (subst (λ q. IsIn q xs) e i))) k in (
      subst AllDiffer (sym p.2) (differ_with x l r w.0 (λ i. a.0 (w.1 x i))),
      λ y i. ⊎_elim
          (λ b. inr (w.1 y (in_append_left y l r b)))
          (λ b. ⊎_elim inl (λ c. inr (w.1 y (in_append_right y l r c))) b)
          (in_append_cases y l (x ∷ r) (subst (IsIn y) p.2 i)),
    )
