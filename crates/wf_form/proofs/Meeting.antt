-- Ends of links that differ, and ports that are met.
use Rattle.std.proofs.Common.{◌≡◌, ◌↔◌, ℕ, zero, suc, ◌+◌, ◌*◌, ◌<◌, ◌≤◌, Bool, true, false, cond, List, [], ◌∷◌, get_or, Vec, Global, Option, Some, None, refl, sym, ap, subst, ◌∙◌, inl, inr, arith, true≢false}
use Rattle.std.specs.Prelude.{◌==◌, MatchOption, IsSome, is_some, IsTrue}
use Rattle.std.proofs.lemmas.Bool.{eqb-true, eq-eqb}
use Rattle.std.proofs.lemmas.List.Sums.{sum_by-cons}
use Rattle.wf_model.specs.Lists.{IsIn, AllDiffer}
use Rattle.wf_model.specs.Grammar.{Inner}
use Rattle.wf_form.specs.Ends.{IsPortOf, HaveFew, place_of, ends_at, IsTable, IsTwice}
use Rattle.wf_form.proofs.Ends.{few_port}

-- the place of a port with a small number is in a table
pub place_small : (p : ℕ) (i : Inner) → (i.position < p) × (i.port < 64) → place_of i < p * 64
place_small p i h =
    let a = h.0 in
    let b = h.1 in
    omega arith

-- two ports with small numbers that stand at one place are the same
same_port : (i j : Inner) → i.port < 64 → j.port < 64 → place_of i ≡ place_of j → i ≡ j
same_port i j a b e =
    let p : i.position ≡ j.position = omega arith in
    let q : i.port ≡ j.port = omega arith in
    ap (λ k. let r : Inner = record { position = k; port = i.port } in r) p ∙ ap (λ k. let r : Inner = record { position = j.position; port = k } in r) q

cons_count : (n : ℕ) (j : Inner) (ends : List Inner) → ends_at n (j ∷ ends) ≡ cond {A = ℕ} (place_of j == n) 1 0 + ends_at n ends
cons_count n j ends = sum_by-cons _ j ends

one_here : (n : ℕ) (j : Inner) → place_of j ≡ n → cond {A = ℕ} (place_of j == n) 1 0 ≡ 1
one_here n j e = ap (λ b. cond {A = ℕ} b 1 0) (eq-eqb (place_of j) n e)

-- an end stands at its place
end_counts : (i : Inner) (ends : List Inner) → IsIn i ends → 1 ≤ ends_at (place_of i) ends
end_counts i [] h = absurd h
end_counts i (j ∷ ends) (inl e) =
    let c = cons_count (place_of i) j ends in
    let o = one_here (place_of i) j (sym (ap place_of e)) in
    omega arith
end_counts i (j ∷ ends) (inr h) =
    let c = cons_count (place_of i) j ends in
    let r = end_counts i ends h in
    omega arith

-- where one stands, it is one of the ends
end_there : (n : ℕ) (ends : List Inner) → 1 ≤ ends_at n ends → (j : Inner) × IsIn j ends × (place_of j ≡ n)
end_there n [] h = absurd (omega arith)
end_there n (j ∷ ends) h = by (end_there n ends) (place_of j == n) refl
  where
    by : (1 ≤ ends_at n ends → (k : Inner) × IsIn k ends × (place_of k ≡ n)) → (b : Bool) → (place_of j == n) ≡ b → (k : Inner) × IsIn k (j ∷ ends) × (place_of k ≡ n)
    by rest true e = (j, inl refl, eqb-true (place_of j) n e)
    by rest false e =
        let c = cons_count n j ends in
        let z : cond {A = ℕ} (place_of j == n) 1 0 ≡ 0 = ap (λ b. cond {A = ℕ} b 1 0) e in
        let r = rest (omega arith) in
        (r.0, inr r.1, r.2)

-- ends that differ stand at different places
differ_once : (ends : List Inner) → ((i : Inner) → IsIn i ends → i.port < 64) → AllDiffer ends → (n : ℕ) → ends_at n ends ≤ 1
differ_once [] small d n = omega arith
differ_once (j ∷ ends) small d n = by (differ_once ends (λ i h. small i (inr h)) d.1 n) (place_of j == n) refl
  where
    c : ends_at n (j ∷ ends) ≡ cond {A = ℕ} (place_of j == n) 1 0 + ends_at n ends
    c = cons_count n j ends

    again : place_of j ≡ n → 1 ≤ ends_at n ends → ⊥
    again e h =
        let r = end_there n ends h in
        d.0 (subst (λ i. IsIn i ends) (same_port r.0 j (small r.0 (inr r.1)) (small j (inl refl)) (r.2 ∙ sym e)) r.1)

    none : (m : ℕ) → ends_at n ends ≡ m → place_of j ≡ n → m ≡ 0
    none zero is e = refl
    none (suc m) is e = absurd (again e (omega arith))

    by : ends_at n ends ≤ 1 → (b : Bool) → (place_of j == n) ≡ b → ends_at n (j ∷ ends) ≤ 1
    by rest true e =
        let z = none (ends_at n ends) refl (eqb-true (place_of j) n e) in
        let o : cond {A = ℕ} (place_of j == n) 1 0 ≡ 1 = ap (λ b. cond {A = ℕ} b 1 0) e in
        let s = c in
        omega arith
    by rest false e =
        let z : cond {A = ℕ} (place_of j == n) 1 0 ≡ 0 = ap (λ b. cond {A = ℕ} b 1 0) e in
        let s = c in
        omega arith

-- and the other way
once_differ : (ends : List Inner) → ((n : ℕ) → ends_at n ends ≤ 1) → AllDiffer ends
once_differ [] h = tt
once_differ (j ∷ ends) h = (
  λ i.
      (let c = cons_count (place_of j) j ends in
      let o = one_here (place_of j) j refl in
      let r = end_counts j ends i in
      let l = h (place_of j) in
      absurd (omega arith)),
  once_differ ends (λ n.
      (let c = cons_count n j ends in
      let l = h n in
      omega arith)),
)

-- an end that stands twice
twice_not : (ends : List Inner) → ((i : Inner) → IsIn i ends → i.port < 64) → IsTwice ends → AllDiffer ends → ⊥
twice_not ends small t d =
    let l = differ_once ends small d (place_of t.0) in
    let two = t.2 in
    omega arith

-- a table of ends has each at most once
table_differ : (p : ℕ) (marks : List Bool) (ends : List Inner) → IsTable p marks ends → AllDiffer ends
table_differ p marks ends t = once_differ ends (λ n. by n (get_or marks n false) refl)
  where
    by : (n : ℕ) (b : Bool) → get_or marks n false ≡ b → ends_at n ends ≤ 1
    by n true e = let s = t.each n ∙ ap (λ b. cond {A = ℕ} b 1 0) e in omega arith
    by n false e = let s = t.each n ∙ ap (λ b. cond {A = ℕ} b 1 0) e in omega arith

-- there is a table of ends exactly if they differ
pub table_told : (p : ℕ) (ends : List Inner) (t : Option (Vec Bool Global)) (b : Bool) → ((i : Inner) → IsIn i ends → i.port < 64) → b ≡ is_some t
    → MatchOption t (IsTwice ends) (λ (marks : Vec Bool Global). IsTable p marks.items ends) → IsTrue b ↔ AllDiffer ends
table_told p ends None b small is h = (λ t. absurd (true≢false (sym t ∙ is)), λ d. absurd (twice_not ends small h d))
table_told p ends (Some marks) b small is h = (λ _. table_differ p marks.items ends h, λ _. is)

pub some_table : (p : ℕ) (ends : List Inner) (t : Option (Vec Bool Global)) → ((i : Inner) → IsIn i ends → i.port < 64) → AllDiffer ends
    → MatchOption t (IsTwice ends) (λ (marks : Vec Bool Global). IsTable p marks.items ends) → IsSome t
some_table p ends None small d h = absurd (twice_not ends small h d)
some_table p ends (Some marks) small d h = refl

-- where the flags of all ports are set, each port is an end
pub all_met : (p : ℕ) (counts : List ℕ) (ends : List Inner) (marks : List Bool) → HaveFew counts → ((i : Inner) → IsIn i ends → i.port < 64) → IsTable p marks ends
    → ((i : Inner) → IsPortOf counts i → get_or marks (place_of i) false ≡ true) → (i : Inner) → IsPortOf counts i → IsIn i ends
all_met p counts ends marks few small t set i h =
    let one : ends_at (place_of i) ends ≡ 1 = t.each (place_of i) ∙ ap (λ b. cond {A = ℕ} b 1 0) (set i h) in
    let r = end_there (place_of i) ends (omega arith) in
    subst (λ j. IsIn j ends) (same_port r.0 i (small r.0 r.1) (few_port counts few i h) r.2) r.1

-- and the other way
pub met_set : (p : ℕ) (counts : List ℕ) (ends : List Inner) (marks : List Bool) → IsTable p marks ends
    → ((i : Inner) → IsPortOf counts i → IsIn i ends) → (i : Inner) → IsPortOf counts i → get_or marks (place_of i) false ≡ true
met_set p counts ends marks t met i h = by (get_or marks (place_of i) false) refl
  where
    by : (b : Bool) → get_or marks (place_of i) false ≡ b → get_or marks (place_of i) false ≡ true
    by true e = e
    by false e =
        let none : ends_at (place_of i) ends ≡ 0 = t.each (place_of i) ∙ ap (λ b. cond {A = ℕ} b 1 0) e in
        let some = end_counts i ends (met i h) in
        absurd (omega arith)
