-- Ends of links at the ports of positions.
use Rattle.std.proofs.Common.{◌≡◌, ℕ, zero, suc, ◌+◌, ◌<◌, ◌≤◌, Bool, true, false, cond, List, [], ◌∷◌, ◌++◌, take, map, length, get_or, set, refl, sym, ap, ◌∙◌, ⊎_elim, arith}
use Rattle.std.specs.Prelude.{◌==◌}
use Rattle.std.proofs.lemmas.Bool.Decides.{nat_tests}
use Rattle.std.proofs.lemmas.List.{get_or-set_same, get_or-set_other, length-set, take_more, take-map, map-append}
use Rattle.std.proofs.lemmas.List.Sums.{sum_by_push, sum_by-take-le}
use Rattle.wf_model.specs.Lists.{IsIn}
use Rattle.wf_model.specs.Grammar.{Inner}
use Rattle.wf_model.specs.Meaning.{inner_of}
use Rattle.wf_model.specs.declared.body.Inner.{Inner as InnerHeld}
use Rattle.wf_model.proofs.Lists.{in_map, at_in, is_at}
use Rattle.wf_form.specs.Ends.{IsPortOf, HaveFew, place_of, ends_at, IsTable, IsTwice}
use Rattle.std.proofs.lemmas.Bool.{cases_eq, eq-eqb}

-- a position with a port is in range
pub position_below : (counts : List ℕ) (i : Inner) → IsPortOf counts i → i.position < length counts
position_below counts i h = go counts i.position i.port h
  where
    go : (counts : List ℕ) (k p : ℕ) → p < get_or counts k 0 → k < length counts
    go [] k p h = absurd (omega arith)
    go (n ∷ counts) zero p h = omega arith
    go (n ∷ counts) (suc k) p h = let r = go counts k p h in omega arith

test_other : (a b : ℕ) → (a ≡ b → ⊥) → (a == b) ≡ false
test_other a b e = go (a == b) refl
  where
    go : (t : Bool) → a == b ≡ t → a == b ≡ false
    go true d = absurd (e (grind (arith, nat_tests)))
    go false d = d

push_count : (n : ℕ) (ends : List Inner) (i : Inner) → ends_at n (ends ++ i ∷ []) ≡ ends_at n ends + cond {A = ℕ} (place_of i == n) 1 0
push_count n ends i = sum_by_push (λ (j : Inner). cond {A = ℕ} (place_of j == n) 1 0) ends i

-- the flag of a new end is set
pub table_more : (p : ℕ) (marks : List Bool) (ends : List Inner) (i : Inner) → IsTable p marks ends → place_of i < length marks → get_or marks (place_of i) false ≡ false → IsTable p (set marks (place_of i) true) (ends ++ i ∷ [])
table_more p marks ends i t low off = record { count = length-set marks (place_of i) true ∙ t.count; each = λ n. ⊎_elim (at_it n) (at_other n) (cases_eq n (place_of i)) }
  where
    at_it : (n : ℕ) → n ≡ place_of i → ends_at n (ends ++ i ∷ []) ≡ cond {A = ℕ} (get_or (set marks (place_of i) true) n false) 1 0
    at_it n e =
        let z : ends_at n ends ≡ 0 = t.each n ∙ (ap (λ k. cond {A = ℕ} (get_or marks k false) 1 0) e ∙ ap (λ b. cond {A = ℕ} b 1 0) off) in
        let o : cond {A = ℕ} (place_of i == n) 1 0 ≡ 1 = ap (λ b. cond {A = ℕ} b 1 0) (eq-eqb (place_of i) n (sym e)) in
        let s : get_or (set marks (place_of i) true) n false ≡ true = ap (λ k. get_or (set marks (place_of i) true) k false) e ∙ get_or-set_same marks (place_of i) true false low in
        let r : ends_at n ends + cond {A = ℕ} (place_of i == n) 1 0 ≡ 1 = omega arith in
        push_count n ends i ∙ (r ∙ sym (ap (λ b. cond {A = ℕ} b 1 0) s))

    at_other : (n : ℕ) → (n ≡ place_of i → ⊥) → ends_at n (ends ++ i ∷ []) ≡ cond {A = ℕ} (get_or (set marks (place_of i) true) n false) 1 0
    at_other n e =
        let o : cond {A = ℕ} (place_of i == n) 1 0 ≡ 0 = ap (λ b. cond {A = ℕ} b 1 0) (test_other (place_of i) n (λ d. e (sym d))) in
        let s : get_or (set marks (place_of i) true) n false ≡ get_or marks n false = get_or-set_other marks (place_of i) n true false e in
        let r : ends_at n ends + cond {A = ℕ} (place_of i == n) 1 0 ≡ ends_at n ends = omega arith in
        push_count n ends i ∙ (r ∙ (t.each n ∙ sym (ap (λ b. cond {A = ℕ} b 1 0) s)))

-- where the flag is set before, two ends stand there
pub table_twice : (p : ℕ) (marks : List Bool) (ends all : List Inner) (i : Inner) (k : ℕ) → IsTable p marks ends → get_or marks (place_of i) false ≡ true → take k all ≡ ends ++ i ∷ [] → IsIn i all → IsTwice all
table_twice p marks ends all i k t on e h =
    let one : ends_at (place_of i) ends ≡ 1 = t.each (place_of i) ∙ ap (λ b. cond {A = ℕ} b 1 0) on in
    let o : cond {A = ℕ} (place_of i == place_of i) 1 0 ≡ 1 = ap (λ b. cond {A = ℕ} b 1 0) (eq-eqb (place_of i) (place_of i) refl) in
    let r = push_count (place_of i) ends i in
    let q : ends_at (place_of i) (take k all) ≡ ends_at (place_of i) (ends ++ i ∷ []) = ap (ends_at (place_of i)) e in
    let l : ends_at (place_of i) (take k all) ≤ ends_at (place_of i) all = sum_by-take-le _ all k in
    (i, h, omega arith)

pub few_port : (counts : List ℕ) → HaveFew counts → (i : Inner) → IsPortOf counts i → i.port < 64
few_port counts few i h = let f = few i.position in omega arith

pub there : (xs : List InnerHeld) (k : ℕ) (d : InnerHeld) → k < length xs → IsIn (inner_of (get_or xs k d)) (map inner_of xs)
there xs k d h = in_map inner_of (get_or xs k d) xs (at_in (get_or xs k d) k xs (is_at k xs d h))

-- one end more is seen
pub one_more : (xs : List InnerHeld) (k : ℕ) (d : InnerHeld) → k < length xs →
    (map inner_of (take (k + 1) xs) ≡ map inner_of (take k xs) ++ inner_of (get_or xs k d) ∷ []) × (take (k + 1) (map inner_of xs) ≡ map inner_of (take k xs) ++ inner_of (get_or xs k d) ∷ [])
one_more xs k d h =
    let e = ap (map inner_of) (take_more xs k d h) ∙ map-append inner_of (take k xs) (get_or xs k d ∷ []) in
    (e, take-map inner_of (k + 1) xs ∙ e)
