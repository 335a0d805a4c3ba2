-- Names that are none of those before them.
use Rattle.wf_model.proofs.Lists.{in_at, at_below, at_in, at_is, is_at, among_gives, among_none, among_not}
use Rattle.wf_model.specs.Lists.{AllDiffer, IsIn}
use Rattle.std.proofs.Common.{arith, inl, inr, zero, suc, ◌≡◌, ℕ, ◌+◌, ◌<◌, false, true, List, [], ◌∷◌, ◌++◌, map, take, length, get_or, sym, ap, subst, ◌∙◌, below_more}
use Rattle.std.proofs.lemmas.List.{take-map, get_or-map, map_more}
use Rattle.wf_model.specs.Faults.{is_one_of}
use Rattle.wf_spec.specs.Naming.{IsNewAt}
use Rattle.wf_spec.specs.FirstFaults.{FailsFirstAt}

module _ {A : Type 0} (f : A → List ℕ) (xs : List A) (k : ℕ) (x : A) (was : x ≡ get_or xs k x) (inside : k < length xs) where
  name_at : get_or (map f xs) k [] ≡ f x
  name_at = get_or-map f xs k x [] inside ∙ ap f (sym was)

  -- a name that is one of those before it is not new
  not_there : (taken : List (List ℕ)) (name : List ℕ) → taken ≡ map f (take k xs) → name ≡ f x → IsIn name taken → ¬ IsNewAt (map f xs) k
  not_there taken name is same here new = new (subst (λ n. IsIn n (take k (map f xs))) (same ∙ sym name_at) (subst (IsIn name) (is ∙ sym (take-map f k xs)) here))

  -- so a name that a table of those before it holds is not new
  pub not_new : (taken : List (List ℕ)) (name : List ℕ) → taken ≡ map f (take k xs) → name ≡ f x → is_one_of taken name ≡ true → ¬ IsNewAt (map f xs) k
  not_new taken name is same held = not_there taken name is same (among_gives name taken held)

  -- and a new name is none of such a table
  pub not_held : (taken : List (List ℕ)) (name : List ℕ) → taken ≡ map f (take k xs) → name ≡ f x → IsNewAt (map f xs) k → is_one_of taken name ≡ false
  not_held taken name is same new = among_none name taken (λ here. not_there taken name is same here new)

  -- a name that it does not hold is new
  pub is_new : (taken : List (List ℕ)) (name : List ℕ) → taken ≡ map f (take k xs) → name ≡ f x → is_one_of taken name ≡ false → IsNewAt (map f xs) k
  is_new taken name is same absent here =
      among_not name taken absent (subst (IsIn name) (take-map f k xs ∙ sym is) (subst (λ n. IsIn n (take k (map f xs))) (name_at ∙ sym same) here))

  -- the first name that is not new
  pub first_not_new : (taken : List (List ℕ)) (name : List ℕ) → taken ≡ map f (take k xs) → name ≡ f x → is_one_of taken name ≡ true → ((j : ℕ) → j < k → IsNewAt (map f xs) j)
      → FailsFirstAt (length xs) (IsNewAt (map f xs)) k
  first_not_new taken name is same held before = record { is_place = inside; before = before; fails = not_new taken name is same held }

  -- one name more
  pub new_more : (taken : List (List ℕ)) (name : List ℕ) → taken ≡ map f (take k xs) → name ≡ f x → is_one_of taken name ≡ false → ((j : ℕ) → j < k → IsNewAt (map f xs) j)
      → (j : ℕ) → j < k + 1 → IsNewAt (map f xs) j
  new_more taken name is same absent before = below_more (IsNewAt (map f xs)) k before (is_new taken name is same absent)

  pub names_more : (taken longer : List (List ℕ)) (name : List ℕ) → taken ≡ map f (take k xs) → name ≡ f x → longer ≡ taken ++ name ∷ [] → longer ≡ map f (take (k + 1) xs)
  names_more taken longer name is same more = more ∙ ap (λ l. l ++ name ∷ []) is ∙ ap (λ n. map f (take k xs) ++ n ∷ []) (same ∙ ap f was) ∙ sym (map_more f xs k x inside)

-- names that are new at each place differ
pub new_differ : (names : List (List ℕ)) → ((k : ℕ) → k < length names → IsNewAt names k) → AllDiffer names
new_differ [] h = tt
new_differ (n ∷ names) h = (
  λ i.
      let r = in_at n names i in
      let inside : suc r.0 < suc (length names) = (let a = at_below n r.0 names r.1 in omega arith) in
      h (suc r.0) inside (inl (at_is n r.0 names [] r.1)),
  new_differ names (λ k inside i. h (suc k) (omega arith) (inr i)),
)

-- and names that differ are new at each place
pub differ_new : (names : List (List ℕ)) → AllDiffer names → (k : ℕ) → k < length names → IsNewAt names k
differ_new [] d k inside i = absurd (omega arith)
differ_new (n ∷ names) d zero inside i = i
differ_new (n ∷ names) d (suc k) inside (inl e) =
    d.0 (subst (λ m. IsIn m names) e (at_in (get_or names k []) k names (is_at k names [] (omega arith))))
differ_new (n ∷ names) d (suc k) inside (inr i) = differ_new names d.1 k (omega arith) i
