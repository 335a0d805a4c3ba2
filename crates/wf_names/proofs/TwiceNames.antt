-- Names of which one is taken, or stands twice, where they are tried in parts.
use Rattle.std.proofs.Common.{◌≡◌, ◌∙◌, ◌<◌, ℕ, zero, suc, length, get_or, map, inl, inr, arith, Bool, true, false, ◌||◌, List, [], ◌∷◌, ◌++◌, refl, sym, ap, append-nil, append_assoc, true≢false}
use Rattle.std.proofs.lemmas.Bool.{or_parts}
use Rattle.wf_model.specs.Faults.{is_one_of, some_twice}
use Rattle.wf_model.specs.Lists.{IsIn}
use Rattle.wf_model.proofs.Lists.{among_gives}
use Rattle.wf_model.proofs.Taking.{twice_gives}

or_more : (a b c : Bool) → (b ≡ true → c ≡ true) → a || b ≡ true → a || c ≡ true
or_more true b c h e = refl
or_more false b c h e = h e

-- where the first part is free, the others are tried with it among those taken
pub twice_behind : (taken xs ys : List (List ℕ)) → some_twice taken xs ≡ false → some_twice taken (xs ++ ys) ≡ some_twice (taken ++ xs) ys
twice_behind taken [] ys e = ap (λ t. some_twice t ys) (sym (append-nil taken))
twice_behind taken (x ∷ xs) ys e =
    let o = or_parts (is_one_of taken x) (some_twice (taken ++ x ∷ []) xs) e in
    ap (λ b. b || some_twice (taken ++ x ∷ []) (xs ++ ys)) o.0 ∙ (twice_behind (taken ++ x ∷ []) xs ys o.1 ∙ ap (λ t. some_twice t ys) (append_assoc taken (x ∷ []) xs))

-- where it is not, all are not
pub twice_first : (taken xs ys : List (List ℕ)) → some_twice taken xs ≡ true → some_twice taken (xs ++ ys) ≡ true
twice_first taken [] ys e = absurd (true≢false (sym e))
twice_first taken (x ∷ xs) ys e = or_more (is_one_of taken x) (some_twice (taken ++ x ∷ []) xs) _ (twice_first (taken ++ x ∷ []) xs ys) e

-- so where one is taken
pub twice_of : (taken ns : List (List ℕ)) (n : List ℕ) → IsIn n ns → is_one_of taken n ≡ true → some_twice taken ns ≡ true
twice_of taken ns n i t = by (some_twice taken ns) refl
  where
    by : (b : Bool) → some_twice taken ns ≡ b → some_twice taken ns ≡ true
    by true e = e
    by false e = absurd ((twice_gives taken ns e).1 n i (among_gives n taken t))

-- what is seen of an element of a list is in the list that is seen
pub in_map : {A : Type 0} (f : A → List ℕ) (xs : List A) (i : ℕ) (d : A) → i < length xs → IsIn (f (get_or xs i d)) (map f xs)
in_map f [] i d l = absurd (omega (arith, l))
in_map f (x ∷ xs) zero d l = inl refl
in_map f (x ∷ xs) (suc i) d l = inr (in_map f xs i d (omega (arith, l)))

-- names that are added part by part: what is left is tried as all were
module _ (before now after list left few rest : List (List ℕ)) (parts : few ++ rest ≡ left) (added : after ≡ now ++ few) where
  pub all_parts : now ++ left ≡ before ++ list → after ++ rest ≡ before ++ list
  all_parts e = ap (λ s. s ++ rest) added ∙ (append_assoc now few rest ∙ (ap (λ l. now ++ l) parts ∙ e))

  pub twice_parts : some_twice now few ≡ false → some_twice now left ≡ some_twice before list → some_twice after rest ≡ some_twice before list
  twice_parts f e = ap (λ s. some_twice s rest) added ∙ (sym (twice_behind now few rest f) ∙ (ap (some_twice now) parts ∙ e))

  pub more_parts : (more : List (List ℕ)) → now ≡ before ++ more → after ≡ before ++ (more ++ few)
  more_parts more e = added ∙ (ap (λ s. s ++ few) e ∙ append_assoc before more few)
