-- What a test passes at one place of a list at most.
use Rattle.std.proofs.Common.{◌≡◌, ℕ, zero, suc, ◌+◌, ◌≤◌, Bool, true, cond, List, [], ◌∷◌, count_by, refl, sym, ap, subst, ◌∙◌, arith}
use Rattle.std.proofs.lemmas.List.Sums.{sum_by-append}
use Rattle.wf_model.specs.Lists.{IsAt}

module _ {A : Type 0} (p : A → Bool) where
  first_counts : (z : A) (zs : List A) → p z ≡ true → count_by p (z ∷ zs) ≡ 1 + count_by p zs
  first_counts z zs h = sum_by-append (λ x. cond (p x) 1 0) (z ∷ []) zs ∙ ap (λ b. (0 + cond b 1 0) + count_by p zs) h

  counts_more : (z : A) (zs : List A) → count_by p zs ≤ count_by p (z ∷ zs)
  counts_more z zs = subst (λ n. count_by p zs ≤ n) (sym (sum_by-append (λ x. cond (p x) 1 0) (z ∷ []) zs)) (let n : count_by p zs ≤ (0 + cond (p z) 1 0) + count_by p zs = omega arith in n)

  -- what it passes at some place is counted
  counted : (xs : List A) (n : ℕ) (x : A) → IsAt x n xs → p x ≡ true → 1 ≤ count_by p xs
  counted [] n x i h = absurd i
  counted (z ∷ zs) zero x i h = let e = first_counts z zs (ap p (sym i) ∙ h) in omega arith
  counted (z ∷ zs) (suc n) x i h = let c = counted zs n x i h in let m = counts_more z zs in omega arith

  pub once : (xs : List A) → count_by p xs ≤ 1 → (m n : ℕ) (x y : A) → IsAt x m xs → IsAt y n xs → p x ≡ true → p y ≡ true → m ≡ n
  once [] c m n x y i j h k = absurd i
  once (z ∷ zs) c zero zero x y i j h k = refl
  once (z ∷ zs) c zero (suc n) x y i j h k = let a = first_counts z zs (ap p (sym i) ∙ h) in let b = counted zs n y j k in absurd (omega arith)
  once (z ∷ zs) c (suc m) zero x y i j h k = let a = first_counts z zs (ap p (sym j) ∙ k) in let b = counted zs m x i h in absurd (omega arith)
  once (z ∷ zs) c (suc m) (suc n) x y i j h k =
      let more = counts_more z zs in
      let low : count_by p zs ≤ 1 = omega arith in
      ap suc (once zs low m n x y i j h k)
