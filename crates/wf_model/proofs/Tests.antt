-- What tests tell, and tests over lists.
use Rattle.std.proofs.Common.{◌≡◌, ℕ, zero, suc, ◌<◌, Bool, true, false, not, ◌&&◌, ◌||◌, List, [], ◌∷◌, ◌++◌, length, get_or, refl, sym, ap, ◌∙◌, arith, true≢false}
use Rattle.wf_model.specs.Lists.{some}

pub not_false : (b : Bool) → not b ≡ false → b ≡ true
not_false true e = refl
not_false false e = absurd (true≢false e)

pub and_left : (a b : Bool) → a && b ≡ true → a ≡ true
and_left true b e = refl
and_left false b e = e

pub and_right : (a b : Bool) → a && b ≡ true → b ≡ true
and_right true b e = e
and_right false b e = absurd (true≢false (sym e))

pub or_nothing : (b : Bool) → b ≡ b || false
or_nothing true = refl
or_nothing false = refl

pub or-assoc : (a b c : Bool) → a || (b || c) ≡ (a || b) || c
or-assoc true b c = refl
or-assoc false b c = refl

-- a test over a list and one element more
pub some_more : {A : Type 0} (t : A → Bool) (xs : List A) (x : A) → some t (xs ++ x ∷ []) ≡ some t xs || t x
some_more t [] x = sym (or_nothing (t x))
some_more t (y ∷ xs) x = ap (λ b. t y || b) (some_more t xs x) ∙ or-assoc (t y) (some t xs) (t x)

-- a mark that is set is one of the marks
pub marked_below : (marks : List Bool) (k : ℕ) → get_or marks k false ≡ true → k < length marks
marked_below [] k e = absurd (true≢false (sym e))
marked_below (m ∷ marks) zero e = omega arith
marked_below (m ∷ marks) (suc k) e = let r = marked_below marks k e in omega arith
