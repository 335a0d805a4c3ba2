-- The alternative numbers of one head's productions differ.
use Rattle.std.proofs.Common.{◌≡◌, ℕ, zero, suc, ◌+◌, ◌-◌, ◌<◌, ◌≤◌, Bool, true, false, eqb, List, [], length, get_or, take, count_by, refl, sym, ap, subst, ⊎_elim, arith, add-zero}
use Rattle.std.proofs.lemmas.List.Sums.{count_by_more_yes, count_by_more_no}
use Rattle.std.proofs.lemmas.Bool.{eq-eqb, cases_order}
use Rattle.wf_model.specs.Grammar.{Grammar, Production, head_of, alternative_of}

-- a longer front counts as much at least
pub count_grows : {A : Type 0} (p : A → Bool) (xs : List A) (d : A) (i n : ℕ) → i + n ≤ length xs → count_by p (take i xs) ≤ count_by p (take (i + n) xs)
count_grows p xs d i zero h = rw add-zero (omega arith)
count_grows {A} p xs d i (suc n) h =
    let r = count_grows p xs d i n (omega arith) in
    let inside : i + n < length xs = omega arith in
    go r inside (p (get_or xs (i + n) d)) refl
  where
    go : count_by p (take i xs) ≤ count_by p (take (i + n) xs) → i + n < length xs → (t : Bool) → p (get_or xs (i + n) d) ≡ t → count_by p (take i xs) ≤ count_by p (take (i + suc n) xs)
    go r inside true e = let f = count_by_more_yes p xs (i + n) d inside e in let k : i + suc n ≡ (i + n) + 1 = omega arith in rw k (omega arith)
    go r inside false e = let f = count_by_more_no p xs (i + n) d inside e in let k : i + suc n ≡ (i + n) + 1 = omega arith in rw k (omega arith)

below : (g : Grammar) (p q : ℕ) → p < q → q < length g.productions → head_of g p ≡ head_of g q → alternative_of g p < alternative_of g q
below g p q lt inside e =
    let test : Production → Bool = λ (r : Production). eqb r.head (head_of g q) in
    let d : Production = record { head = 0; positions = []; edges = []; entries = []; exits = [] } in
    let yes = count_by_more_yes test g.productions p d (omega arith) (eq-eqb (head_of g p) (head_of g q) e) in
    let k : (p + 1) + (q - (p + 1)) ≡ q = omega arith in
    let more : count_by test (take (p + 1) g.productions) ≤ count_by test (take q g.productions) = subst (λ z. count_by test (take (p + 1) g.productions) ≤ count_by test (take z g.productions)) k (count_grows test g.productions d (p + 1) (q - (p + 1)) (omega arith)) in
    let here : alternative_of g p ≡ count_by test (take p g.productions) = ap (λ z. count_by (λ (r : Production). eqb r.head z) (take p g.productions)) e in
    omega (arith, yes, more, here)

pub same_alternative : (g : Grammar) (p q : ℕ) → p < length g.productions → q < length g.productions → head_of g p ≡ head_of g q → alternative_of g p ≡ alternative_of g q → p ≡ q
same_alternative g p q hp hq e a =
    ⊎_elim (λ h. h)
    (λ h. ⊎_elim
    (λ k. let r = below g p q k hq e in absurd (omega arith))
    (λ k. let r = below g q p k hp (sym e) in absurd (omega arith)) h)
    (cases_order p q)
