-- Lists of numbers that rise: two with the same members are equal.
use Rattle.std.proofs.Common.{◌≡◌, ℕ, zero, suc, ◌<◌, ◌⊎◌, ◌↔◌, Bool, true, false, cond, List, [], ◌∷◌, map, get_or, refl, sym, ap, ◌∙◌, inl, inr, ⊎_elim, arith}
use Rattle.std.specs.List.{filter}
use Rattle.wf_model.specs.Lists.{IsIn, IsAt, numbers_from}
use Rattle.wf_model.proofs.Lists.{in_at, at_in, at_is, in_filter_from}
use Rattle.wf_model.proofs.NumberLists.{from_first}
use Rattle.wf_model.proofs.Mapping.{at_map}

-- of two places in order the second has the greater number
abbrev pub IsRising : List ℕ → Type 0
IsRising xs = (j k a b : ℕ) → j < k → IsAt a j xs → IsAt b k xs → a < b

pub rising_head : (x : ℕ) (xs : List ℕ) → IsRising (x ∷ xs) → (a : ℕ) → IsIn a xs → x < a
rising_head x xs r a h = let p = in_at a xs h in r 0 (suc p.0) x a (omega arith) refl p.1

pub rising_tail : (x : ℕ) (xs : List ℕ) → IsRising (x ∷ xs) → IsRising xs
rising_tail x xs r j k a b h p q = r (suc j) (suc k) a b (omega arith) p q

same_head : (x y : ℕ) (xs ys : List ℕ) → IsRising (x ∷ xs) → IsRising (y ∷ ys) → IsIn x (y ∷ ys) → IsIn y (x ∷ xs) → x ≡ y
same_head x y xs ys r s (inl e) k = e
same_head x y xs ys r s (inr h) (inl e) = sym e
same_head x y xs ys r s (inr h) (inr k) = let a = rising_head y ys s x h in let b = rising_head x xs r y k in absurd (omega arith)

in_tail : (x y a : ℕ) (xs ys : List ℕ) → x ≡ y → IsRising (x ∷ xs) → (IsIn a (x ∷ xs) → IsIn a (y ∷ ys)) → IsIn a xs → IsIn a ys
in_tail x y a xs ys e r f h = ⊎_elim (λ q. let b = rising_head x xs r a h in absurd (omega arith)) (λ q. q) (f (inr h))

pub same_rising : (xs ys : List ℕ) → IsRising xs → IsRising ys → ((a : ℕ) → IsIn a xs ↔ IsIn a ys) → xs ≡ ys
same_rising [] [] r s same = refl
same_rising [] (y ∷ ys) r s same = absurd ((same y).1 (inl refl))
same_rising (x ∷ xs) [] r s same = absurd ((same x).0 (inl refl))
same_rising (x ∷ xs) (y ∷ ys) r s same =
    let e = same_head x y xs ys r s ((same x).0 (inl refl)) ((same y).1 (inl refl)) in
    let t = same_rising xs ys (rising_tail x xs r) (rising_tail y ys s) (λ a. (in_tail x y a xs ys e r (same a).0, in_tail y x a ys xs (sym e) s (same a).1)) in
    ap (λ z. z ∷ xs) e ∙ ap (λ l. y ∷ l) t

rising_cons : (x : ℕ) (xs : List ℕ) → ((a : ℕ) → IsIn a xs → x < a) → IsRising xs → IsRising (x ∷ xs)
rising_cons x xs low r zero zero a b h p q = absurd (omega arith)
rising_cons x xs low r (suc j) zero a b h p q = absurd (omega arith)
rising_cons x xs low r zero (suc k) a b h p q = let l = low b (at_in b k xs q) in omega (arith, p)
rising_cons x xs low r (suc j) (suc k) a b h p q = r j k a b (omega arith) p q

-- the numbers that pass a test rise
pub numbers_rise : (t : ℕ → Bool) (k n : ℕ) → IsRising (filter t (numbers_from k n))
numbers_rise t k zero = λ i j a b h p q. absurd p
numbers_rise t k (suc n) = go (numbers_rise t (suc k) n) (t k)
  where
    go : IsRising (filter t (numbers_from (suc k) n)) → (b : Bool) → IsRising (cond b (k ∷ filter t (numbers_from (suc k) n)) (filter t (numbers_from (suc k) n)))
    go r true = rising_cons k (filter t (numbers_from (suc k) n)) (λ a i. let f = in_filter_from t a (numbers_from (suc k) n) i in let l = from_first a (suc k) n f.0 in omega arith) r
    go r false = r

-- two pairs of a list whose first numbers rise are one pair where these are equal
pub one_second : (l : List (ℕ × ℕ)) → IsRising (map (λ (c : ℕ × ℕ). c.0) l) → (m p q : ℕ) → IsIn (m, p) l → IsIn (m, q) l → p ≡ q
one_second l r m p q a b = ⊎_elim (λ h. absurd (below p q j.0 k.0 j.1 k.1 h)) (λ c. ⊎_elim (λ e. same e) (λ h. absurd (below q p k.0 j.0 k.1 j.1 h)) c) cases
  where
    j : (n : ℕ) × IsAt (m, p) n l
    j = in_at (m, p) l a

    k : (n : ℕ) × IsAt (m, q) n l
    k = in_at (m, q) l b

    below : (s t x y : ℕ) → IsAt (m, s) x l → IsAt (m, t) y l → x < y → ⊥
    below s t x y hs ht h = let z = r x y m m h (at_map (λ (c : ℕ × ℕ). c.0) _ x l hs) (at_map (λ (c : ℕ × ℕ). c.0) _ y l ht) in absurd (omega arith)

    same : j.0 ≡ k.0 → p ≡ q
    same e = ap (λ (c : ℕ × ℕ). c.1) (sym (at_is (m, p) j.0 l (0, 0) j.1) ∙ (ap (λ n. get_or l n (0, 0)) e ∙ at_is (m, q) k.0 l (0, 0) k.1))

    cases : (j.0 < k.0) ⊎ ((j.0 ≡ k.0) ⊎ (k.0 < j.0))
    cases = grind arith
