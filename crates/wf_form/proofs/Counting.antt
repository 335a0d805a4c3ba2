-- How often a port of a position stands in a list.
use Rattle.std.proofs.Common.{◌≡◌, ℕ, ◌+◌, ◌<◌, Bool, true, false, cond, ◌&&◌, List, [], ◌∷◌, refl, sym, ap, ◌∙◌, subst, inl, inr, arith, true≢false}
use Rattle.std.specs.Prelude.{◌==◌, count_by, nat_lt}
use Rattle.std.proofs.lemmas.Bool.{eqb-true, eq-eqb, ltb-true, ltb-false}
use Rattle.std.proofs.lemmas.List.Sums.{sum_by-cons}
use Rattle.wf_model.specs.Lists.{IsIn, AllDiffer}
use Rattle.wf_model.specs.Grammar.{Inner}
use Rattle.wf_model.specs.WellFormed.{same_inner}

same_gives : (i j : Inner) → same_inner i j ≡ true → i ≡ j
same_gives i j h = by (i.position == j.position) refl h
  where
    by : (b : Bool) → (i.position == j.position) ≡ b → (b && (i.port == j.port)) ≡ true → i ≡ j
    by true e k =
        ap (λ n. let r : Inner = record { position = n; port = i.port } in r) (eqb-true i.position j.position e)
        ∙ ap (λ n. let r : Inner = record { position = j.position; port = n } in r) (eqb-true i.port j.port k)
    by false e k = absurd (true≢false (sym k))

same_self : (i j : Inner) → i ≡ j → same_inner i j ≡ true
same_self i j e =
    ap (λ b. b && (i.port == j.port)) (eq-eqb i.position j.position (ap (λ (x : Inner). x.position) e)) ∙ eq-eqb i.port j.port (ap (λ (x : Inner). x.port) e)

counted : (i j : Inner) (xs : List Inner) → count_by (same_inner i) (j ∷ xs) ≡ cond {A = ℕ} (same_inner i j) 1 0 + count_by (same_inner i) xs
counted i j xs = sum_by-cons _ j xs

-- a port that stands in a list is counted, and one that is counted stands there
pub counted_in : (i : Inner) (xs : List Inner) → IsIn i xs → 0 < count_by (same_inner i) xs
counted_in i [] h = absurd h
counted_in i (j ∷ xs) (inl e) =
    let a = counted i j xs in let b : cond {A = ℕ} (same_inner i j) 1 0 ≡ 1 = ap (λ t. cond {A = ℕ} t 1 0) (same_self i j e) in omega arith
counted_in i (j ∷ xs) (inr h) = let a = counted i j xs in let b = counted_in i xs h in omega arith

pub in_counted : (i : Inner) (xs : List Inner) → 0 < count_by (same_inner i) xs → IsIn i xs
in_counted i [] h = absurd (omega arith)
in_counted i (j ∷ xs) h = by (in_counted i xs) (same_inner i j) refl
  where
    by : (0 < count_by (same_inner i) xs → IsIn i xs) → (b : Bool) → same_inner i j ≡ b → IsIn i (j ∷ xs)
    by later true e = inl (same_gives i j e)
    by later false e = inr (later (let a = counted i j xs in let b : cond {A = ℕ} (same_inner i j) 1 0 ≡ 0 = ap (λ t. cond {A = ℕ} t 1 0) e in omega arith))

-- one that does not is not
pub not_counted : (i : Inner) (xs : List Inner) → (IsIn i xs → ⊥) → count_by (same_inner i) xs ≡ 0
not_counted i xs h = by (nat_lt 0 (count_by (same_inner i) xs)) refl
  where
    by : (b : Bool) → nat_lt 0 (count_by (same_inner i) xs) ≡ b → count_by (same_inner i) xs ≡ 0
    by true e = absurd (h (in_counted i xs (ltb-true 0 (count_by (same_inner i) xs) e)))
    by false e = let l = ltb-false 0 (count_by (same_inner i) xs) e in omega arith

-- where they differ, a port that stands there is counted once
pub counted_once : (i : Inner) (xs : List Inner) → AllDiffer xs → IsIn i xs → count_by (same_inner i) xs ≡ 1
counted_once i [] d h = absurd h
counted_once i (j ∷ xs) d (inl e) =
    let a = counted i j xs in
    let b : cond {A = ℕ} (same_inner i j) 1 0 ≡ 1 = ap (λ t. cond {A = ℕ} t 1 0) (same_self i j e) in
    let n = not_counted i xs (λ h. d.0 (subst (λ z. IsIn z xs) e h)) in
    omega arith
counted_once i (j ∷ xs) d (inr h) =
    let a = counted i j xs in
    let b = counted_once i xs d.1 h in
    by (same_inner i j) refl a b
  where
    by : (t : Bool) → same_inner i j ≡ t → count_by (same_inner i) (j ∷ xs) ≡ cond {A = ℕ} (same_inner i j) 1 0 + count_by (same_inner i) xs → count_by (same_inner i) xs ≡ 1
        → count_by (same_inner i) (j ∷ xs) ≡ 1
    by true e a b = absurd (d.0 (subst (λ z. IsIn z xs) (same_gives i j e) h))
    by false e a b = let c : cond {A = ℕ} (same_inner i j) 1 0 ≡ 0 = ap (λ t. cond {A = ℕ} t 1 0) e in omega arith

-- where each is counted once, they differ
pub differ_counted : (xs : List Inner) → ((i : Inner) → IsIn i xs → count_by (same_inner i) xs ≡ 1) → AllDiffer xs
differ_counted [] h = tt
differ_counted (j ∷ xs) h = (
  λ k.
      let a = counted j j xs in
      let b : cond {A = ℕ} (same_inner j j) 1 0 ≡ 1 = ap (λ t. cond {A = ℕ} t 1 0) (same_self j j refl) in
      let c = h j (inl refl) in
      let d = counted_in j xs k in
      absurd (omega arith),
  differ_counted xs (λ i k. (let a = counted i j xs in let c = h i (inr k) in let d = counted_in i xs k in omega arith)),
)
