-- Names that differ, tested one by one.
use Rattle.std.proofs.Common.{◌≡◌, ℕ, Bool, true, false, not, ◌||◌, List, [], ◌∷◌, ◌++◌, refl, sym, ap, ◌∙◌, append_assoc, append-nil}
use Rattle.wf_model.specs.Faults.{some_twice, is_one_of}
use Rattle.wf_model.proofs.Tests.{or-assoc}

pub twice-append : (t xs ys : List (List ℕ)) → some_twice t (xs ++ ys) ≡ some_twice t xs || some_twice (t ++ xs) ys
twice-append t [] ys = ap (λ l. some_twice l ys) (sym (append-nil t))
twice-append t (x ∷ xs) ys =
    ap (λ b. is_one_of t x || b) (twice-append (t ++ x ∷ []) xs ys)
    ∙ (ap (λ l. is_one_of t x || (some_twice (t ++ x ∷ []) xs || some_twice l ys)) (append_assoc t (x ∷ []) xs)
    ∙ or-assoc (is_one_of t x) (some_twice (t ++ x ∷ []) xs) (some_twice (t ++ x ∷ xs) ys))

-- a name of the first list stands twice
pub first_repeats : (t xs ys : List (List ℕ)) (b : Bool) → t ≡ [] → b ≡ not (some_twice t xs) → b ≡ false → false ≡ not (some_twice [] (xs ++ ys))
first_repeats t xs ys b e told f =
    sym f ∙ (told ∙ (ap (λ l. not (some_twice l xs)) e ∙ by (some_twice [] xs) (some_twice ([] ++ xs) ys) (sym (ap (λ l. not (some_twice l xs)) e) ∙ (sym told ∙ f)) ∙ ap not (sym (twice-append [] xs ys))))
  where
    by : (a c : Bool) → not a ≡ false → not a ≡ not (a || c)
    by true c h = refl
    by false c h = h ∙ sym (by_false c h)
      where
        by_false : (c : Bool) → true ≡ false → not c ≡ false
        by_false true h = refl
        by_false false h = h

-- the names of the first list differ, so the second decides
pub second_decides : (t xs ys t' : List (List ℕ)) (b b' : Bool) → t ≡ [] → b ≡ not (some_twice t xs) → b ≡ true → t' ≡ t ++ xs → b' ≡ not (some_twice t' ys) → b' ≡ not (some_twice [] (xs ++ ys))
second_decides t xs ys t' b b' e told f more told' =
    told' ∙ (ap (λ l. not (some_twice l ys)) (more ∙ ap (λ l. l ++ xs) e) ∙ (ap not (sym (by (some_twice [] xs) (some_twice xs ys) (sym (ap (λ l. not (some_twice l xs)) e) ∙ (sym told ∙ f)))) ∙ ap not (sym (twice-append [] xs ys))))
  where
    by : (a c : Bool) → not a ≡ true → a || c ≡ c
    by true c h = absurd (true_not h)
      where
        true_not : false ≡ true → ⊥
        true_not h = Rattle.std.proofs.Common.true≢false (sym h)
    by false c h = refl
