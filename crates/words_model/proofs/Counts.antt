-- How many elements of a list pass a test.
use Rattle.std.proofs.Common.{◌≡◌, ℕ, ◌+◌, Bool, true, false, cond, List, [], ◌∷◌, ◌++◌, map, count_by, refl, sym, ap, ◌∙◌, subst, inl, inr, arith}
use Rattle.std.proofs.lemmas.List.Sums.{sum_by-cons, sum_by-append}
use Rattle.std.proofs.lemmas.Bool.{false_from_ne_true}
use Rattle.wf_model.specs.Lists.{IsIn, AllDiffer}

pub count_more : {A : Type 0} (t : A → Bool) (x : A) (xs : List A) → count_by t (x ∷ xs) ≡ cond (t x) 1 0 + count_by t xs
count_more t x xs = sum_by-cons (λ x. cond (t x) 1 0) x xs

pub count-append : {A : Type 0} (t : A → Bool) (xs ys : List A) → count_by t (xs ++ ys) ≡ count_by t xs + count_by t ys
count-append t xs ys = sum_by-append (λ x. cond (t x) 1 0) xs ys

pub count-map : {A B : Type 0} (t : B → Bool) (f : A → B) (xs : List A) → count_by t (map f xs) ≡ count_by (λ x. t (f x)) xs
count-map t f [] = refl
count-map t f (x ∷ xs) = let a = count_more t (f x) (map f xs) in let b = count_more (λ x. t (f x)) x xs in let c = count-map t f xs in omega arith

pub count_none : {A : Type 0} (t : A → Bool) (xs : List A) → ((x : A) → IsIn x xs → t x ≡ false) → count_by t xs ≡ 0
count_none t [] h = refl
count_none t (x ∷ xs) h =
    let a = count_more t x xs in
    let b : ◌≡◌ {A = ℕ} (cond {A = ℕ} (t x) 1 0) 0 = ap (λ z. cond {A = ℕ} z 1 0) (h x (inl refl)) in
    let c = count_none t xs (λ y q. h y (inr q)) in omega arith

-- of different numbers one alone passes
pub count_one : (t : ℕ → Bool) (s : ℕ) (xs : List ℕ) → AllDiffer xs → IsIn s xs → t s ≡ true → ((x : ℕ) → IsIn x xs → t x ≡ true → x ≡ s) → count_by t xs ≡ 1
count_one t s [] d h ts only = absurd h
count_one t s (x ∷ xs) d (inl e) ts only =
    let a = count_more t x xs in
    let b : ◌≡◌ {A = ℕ} (cond {A = ℕ} (t x) 1 0) 1 = ap (λ z. cond {A = ℕ} z 1 0) (ap t (sym e) ∙ ts) in
    let c = count_none t xs (λ y q. false_from_ne_true (t y) (λ w. d.0 (subst (λ z. IsIn z xs) (only y (inr q) w ∙ e) q))) in omega arith
count_one t s (x ∷ xs) d (inr h) ts only =
    let a = count_more t x xs in
    let b : ◌≡◌ {A = ℕ} (cond {A = ℕ} (t x) 1 0) 0 = ap (λ z. cond {A = ℕ} z 1 0) (false_from_ne_true (t x) (λ w. d.0 (subst (λ z. IsIn z xs) (sym (only x (inl refl) w)) h))) in
    let c = count_one t s xs d.1 h ts (λ y q. only y (inr q)) in omega arith
