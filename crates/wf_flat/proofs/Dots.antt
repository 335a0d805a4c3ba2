-- A name with a dot, split at its first dot.
use Rattle.std.proofs.Common.{◌≡◌, ℕ, zero, suc, ◌+◌, ◌<◌, ◌≤◌, Bool, true, false, not, cond, List, [], ◌∷◌, ◌++◌, take, drop, get_or, length, Option, Some, None, refl, ap, sym, subst, ◌∙◌, arith, inl, inr, true≢false}
use Rattle.std.specs.Prelude.{position, nat_lt, ◌==◌}
use Rattle.std.specs.List.{position_or_len}
use Rattle.std.proofs.lemmas.Bool.Decides.{nat_tests}
use Rattle.std.proofs.lemmas.List.Quantifiers.{position-Some}
use Rattle.std.proofs.lemmas.List.Sums.{prefix_len-le-length}
use Rattle.wf_model.specs.Lists.{IsIn}
use Rattle.wf_model.specs.Items.{dotted}
use Rattle.wf_model.proofs.Lists.{in_append_right}
use Rattle.wf_model.proofs.ItemNames.{dotted_at}

-- where a test has no place, no element passes it
pub none_passes : {A : Type 0} (p : A → Bool) (xs : List A) → position p xs ≡ None → (x : A) → IsIn x xs → p x ≡ true → ⊥
none_passes p xs e x h t = all_fail p xs (by (position_or_len p xs) (length xs) (prefix_len-le-length (λ y. not (p y)) xs) e) x h t
  where
    by : (a b : ℕ) → a ≤ b → cond {A = Option ℕ} (nat_lt a b) (Some a) None ≡ None → a ≡ b
    by a b l h = go (nat_lt a b) refl h
      where
        go : (t : Bool) → nat_lt a b ≡ t → cond {A = Option ℕ} t (Some a) None ≡ None → a ≡ b
        go true e h = absurd (cc)
        go false e h = let r : b ≤ a = grind (arith, nat_tests) in omega arith

    all_fail : {A : Type 0} (p : A → Bool) (xs : List A) → position_or_len p xs ≡ length xs → (x : A) → IsIn x xs → p x ≡ true → ⊥
    all_fail p [] e x h t = h
    all_fail {A} p (y ∷ xs) e x h t = go (all_fail p xs) (p y) refl h
      where
        go : (position_or_len p xs ≡ length xs → (x : A) → IsIn x xs → p x ≡ true → ⊥) → (b : Bool) → p y ≡ b → IsIn x (y ∷ xs) → ⊥
        go ih true q i = let f : position_or_len p (y ∷ xs) ≡ 0 = grind arith in absurd (omega arith)
        go ih false q (inl i) = true≢false (sym t ∙ (ap p i ∙ q))
        go ih false q (inr i) = let f : position_or_len p (y ∷ xs) ≡ 1 + position_or_len p xs = grind arith in
            let g : position_or_len p xs ≡ length xs = omega arith in ih g x i t

dot_in : (a b : List ℕ) → IsIn 46 (dotted a b)
dot_in a b = subst (IsIn 46) (sym (dotted_at a b)) (in_append_right 46 a (46 ∷ b) (inl refl))

-- a name in which the dot has no place is not split by one
pub not_dotted : (name a b : List ℕ) → position (λ (z : ℕ). z == 46) name ≡ None → dotted a b ≡ name → ⊥
not_dotted name a b e h = none_passes (λ (z : ℕ). z == 46) name e 46 (subst (IsIn 46) h (dot_in a b)) refl

parts : (name : List ℕ) (k : ℕ) → k < length name → get_or name k 0 ≡ 46 → name ≡ take k name ++ 46 ∷ drop (suc k) name
parts [] k h e = absurd (omega arith)
parts (x ∷ name) zero h e = let f : x ≡ 46 = e in ap (λ z. z ∷ name) f
parts (x ∷ name) (suc k) h e = let l : k < length name = omega arith in ap (λ t. x ∷ t) (parts name k l e)

none_before : (name : List ℕ) (k : ℕ) → ((j : ℕ) → j < k → get_or name j 0 == 46 ≡ false) → IsIn 46 (take k name) → ⊥
none_before [] zero f h = h
none_before [] (suc k) f h = h
none_before (x ∷ name) zero f h = h
none_before (x ∷ name) (suc k) f (inl e) = let z : 0 < suc k = omega arith in true≢false (ap (λ y. y == 46) e ∙ f 0 z)
none_before (x ∷ name) (suc k) f (inr h) = none_before name k (λ j l. let s : suc j < suc k = omega arith in f (suc j) s) h

-- the parts of a name, split at the place of its first dot
pub split_at : (name : List ℕ) (k : ℕ) → position (λ (z : ℕ). z == 46) name ≡ Some k → (name ≡ dotted (take k name) (drop (k + 1) name)) × (IsIn 46 (take k name) → ⊥)
split_at name k e =
    let p = position-Some (λ (z : ℕ). z == 46) name k 0 e in
    let q : get_or name k 0 == 46 ≡ true = p.1 in
    let n : suc k ≡ k + 1 = omega arith in
    (parts name k p.0 (same (get_or name k 0) q) ∙ (sym (dotted_at (take k name) (drop (suc k) name)) ∙ ap (λ j. dotted (take k name) (drop j name)) n), none_before name k p.2)
  where
    same : (n : ℕ) → n == 46 ≡ true → n ≡ 46
    same n q = grind (arith, nat_tests)
