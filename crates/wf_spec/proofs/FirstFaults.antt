-- Rules, the first places at which they do not hold, and groups of them.
use Rattle.std.proofs.Common.{◌≡◌, ◌⊎◌, ℕ, zero, suc, ◌+◌, ◌<◌, Bool, true, false, cond, nat_lt, not, List, [], ◌∷◌, length, get_or, take, drop, Option, Some, None, refl, sym, ap, subst, ◌∙◌, inl, inr, ⊎_elim, arith, below_more, true≢false}
use Rattle.std.specs.Prelude.{position}
use Rattle.std.specs.List.{position_or_len}
use Rattle.std.proofs.lemmas.Bool.{cases_lt, ltb-true, ltb-false}
use Rattle.wf_model.specs.Lists.{IsIn, IsAt}
use Rattle.wf_model.proofs.Lists.{at_below, at_is, in_at, is_at}
use Rattle.wf_spec.specs.FirstFaults.{Rule, each, AllHold, FailsFirstAt, HoldsThroughout, IsFirstFailing, IsFirstFault}

-- the elements before the first that is bad are good
pub good_before : {A : Type 0} (bad : A → Bool) (Good : A → Type 0) (list : List A) → ((x : A) → IsIn x list → bad x ≡ false → Good x)
    → (j : ℕ) → j < position_or_len bad list → (x : A) → IsAt x j list → Good x
good_before bad Good [] good j h x at = absurd at
good_before bad Good (y ∷ ys) good j h x at = by (good_before bad Good ys (λ z i. good z (inr i))) (bad y) refl j h at
  where
    by : ((k : ℕ) → k < position_or_len bad ys → (z : _) → IsAt z k ys → Good z) → (b : Bool) → bad y ≡ b → (k : ℕ) → k < cond (not b) (1 + position_or_len bad ys) 0 → IsAt x k (y ∷ ys) → Good x
    by rest true is k below here = absurd (omega arith)
    by rest false is zero below here = subst Good (sym here) (good y (inl refl) is)
    by rest false is (suc k) below here = rest k (omega arith) x here

at_next : {A : Type 0} (x : A) (k : ℕ) (y : A) (ys : List A) → IsAt x k ys → IsAt x (1 + k) (y ∷ ys)
at_next x k y ys here = let e : suc k ≡ 1 + k = omega arith in subst (λ n. IsAt x n (y ∷ ys)) e here

-- the first that is bad is not good
pub not_good : {A : Type 0} (bad : A → Bool) (Good : A → Type 0) (list : List A) → ((x : A) → IsIn x list → bad x ≡ true → ¬ Good x)
    → position_or_len bad list < length list → ¬ ((x : A) → IsAt x (position_or_len bad list) list → Good x)
not_good bad Good [] never h all = absurd (omega arith)
not_good {A} bad Good (y ∷ ys) never h all = by (not_good bad Good ys (λ z i. never z (inr i))) (bad y) refl h all
  where
    by : (position_or_len bad ys < length ys → ¬ ((x : A) → IsAt x (position_or_len bad ys) ys → Good x)) → (b : Bool) → bad y ≡ b
        → cond (not b) (1 + position_or_len bad ys) 0 < suc (length ys) → ¬ ((x : A) → IsAt x (cond (not b) (1 + position_or_len bad ys) 0) (y ∷ ys) → Good x)
    by rest true is below all = never y (inl refl) is (all y refl)
    by rest false is below all = rest (omega arith) (λ x here. all x (at_next x (position_or_len bad ys) y ys here))

-- the place of the first bad element is the first at which the rule does not hold
pub position_is_first : {A F : Type 0} (bad : A → Bool) (Good : A → Type 0) (told : ℕ → F) (list : List A) (answer : Option ℕ)
    → ((x : A) → IsIn x list → bad x ≡ false → Good x) → ((x : A) → IsIn x list → bad x ≡ true → ¬ Good x)
    → answer ≡ position bad list → IsFirstFailing (each list Good told) answer
position_is_first bad Good told list answer good never is = subst (IsFirstFailing (each list Good told)) (sym is) (by (nat_lt (position_or_len bad list) (length list)) refl)
  where
    by : (b : Bool) → nat_lt (position_or_len bad list) (length list) ≡ b → IsFirstFailing (each list Good told) (cond b (Some (position_or_len bad list)) None)
    by true is =
        let inside = ltb-true (position_or_len bad list) (length list) is in
        record { is_place = inside; before = λ j h x. good_before bad Good list good j h x; fails = not_good bad Good list never inside }
    by false is =
        let past = ltb-false (position_or_len bad list) (length list) is in
        λ j h x. good_before bad Good list good j (omega arith) x

-- the same where a test of the good ones is answered by its opposite
pub first_that_is_not : {A F : Type 0} (test : A → Bool) (Good : A → Type 0) (told : ℕ → F) (list : List A) (answer : Option ℕ)
    → ((x : A) → IsIn x list → test x ≡ true → Good x) → ((x : A) → IsIn x list → Good x → test x ≡ true)
    → answer ≡ position (λ x. not (test x)) list → IsFirstFailing (each list Good told) answer
first_that_is_not test Good told list answer good tested is =
    position_is_first (λ x. not (test x)) Good told list answer (λ x i e. good x i (not_true (test x) e)) (λ x i e h. true≢false (sym (tested x i h) ∙ not_false (test x) e)) is
  where
    not_true : (b : Bool) → not b ≡ false → b ≡ true
    not_true true e = refl
    not_true false e = absurd (true≢false e)

    not_false : (b : Bool) → not b ≡ true → b ≡ false
    not_false true e = absurd (true≢false (sym e))
    not_false false e = refl

-- an element that a loop reads stands at its place
pub read_at : {A : Type 0} (list : List A) (i : ℕ) (x : A) → x ≡ get_or list i x → i < length list → IsAt x i list
read_at list i x was inside = subst (λ y. IsAt y i list) (sym was) (is_at i list x inside)

-- what holds at the places before i, and of the element there, holds at those before i + 1
pub holds_more : {A : Type 0} (Good : A → Type 0) (list : List A) (i : ℕ) (x : A) → ((j : ℕ) → j < i → (y : A) → IsAt y j list → Good y) → Good x → x ≡ get_or list i x
    → (j : ℕ) → j < i + 1 → (y : A) → IsAt y j list → Good y
holds_more Good list i x before here was =
    below_more (λ j. (y : _) → IsAt y j list → Good y) i before (λ y at. subst Good (was ∙ at_is y i list x at) here)

-- the first element of which it does not hold
pub fails_at : {A : Type 0} (Good : A → Type 0) (list : List A) (i : ℕ) (x : A) → ((j : ℕ) → j < i → (y : A) → IsAt y j list → Good y) → ¬ Good x → x ≡ get_or list i x → i < length list
    → FailsFirstAt (length list) (λ k. (y : A) → IsAt y k list → Good y) i
fails_at Good list i x before never was inside = record {
  is_place = inside;
  before = before;
  fails = λ all. never (all x (read_at list i x was inside));
}

-- a rule holds of each element that is in the list
pub holds_of : {A F : Type 0} (Good : A → Type 0) (told : ℕ → F) (list : List A) → HoldsThroughout (each list Good told) → (x : A) → IsIn x list → Good x
holds_of Good told list all x here = let k = in_at x list here in all k.0 (at_below x k.0 list k.1) x k.1

-- where the first n rules hold, a fault of those after them is the fault of all
pub fault_of_rest : {F Other : Type 0} (n : ℕ) (rs : List (Rule F)) (f : F) → AllHold (take n rs) → Other ⊎ IsFirstFault (drop n rs) f → Other ⊎ IsFirstFault rs f
fault_of_rest n rs f first (inl e) = inl e
fault_of_rest {F} n rs f first (inr h) = inr (go n rs first h)
  where
    go : (n : ℕ) (rs : List (Rule F)) → AllHold (take n rs) → IsFirstFault (drop n rs) f → IsFirstFault rs f
    go zero rs first h = h
    go (suc n) [] first h = absurd h
    go (suc n) (r ∷ rs) first h = inr (first.0, go n rs first.1 h)

-- a rule that is asked once fails at its one place
pub once_fails : (Holds : Type 0) → ¬ Holds → FailsFirstAt 1 (λ k. Holds) 0
once_fails Holds never = record { is_place = omega arith; before = λ j below. absurd (omega arith); fails = never }

-- what a search for the first place answers
pub told_some : {F : Type 0} (r : Rule F) (answer : Option ℕ) (k : ℕ) → IsFirstFailing r answer → answer ≡ Some k → FailsFirstAt r.places r.holds k
told_some r answer k h is = subst (IsFirstFailing r) is h

pub told_none : {F : Type 0} (r : Rule F) (answer : Option ℕ) → IsFirstFailing r answer → answer ≡ None → HoldsThroughout r
told_none r answer h is = subst (IsFirstFailing r) is h

-- a rule fails first at one place
pub one_place : (places : ℕ) (Holds : ℕ → Type 0) (j k : ℕ) → FailsFirstAt places Holds j → FailsFirstAt places Holds k → j ≡ k
one_place places Holds j k p q =
    ⊎_elim (λ h. absurd (p.fails (q.before j h)))
    (λ h. ⊎_elim (λ l. absurd (q.fails (p.before k l))) (λ l. omega arith) (cases_lt k j)) (cases_lt j k)

-- rules that all hold have no fault
pub no_fault : {F : Type 0} (rs : List (Rule F)) (f : F) → AllHold rs → IsFirstFault rs f → ⊥
no_fault [] f a h = absurd h
no_fault (r ∷ rs) f a (inl h) = h.1.fails (a.0 h.0 h.1.is_place)
no_fault (r ∷ rs) f a (inr h) = no_fault rs f a.1 h.1

-- rules have one first fault
pub one_first : {F : Type 0} (rs : List (Rule F)) (f g : F) → IsFirstFault rs f → IsFirstFault rs g → f ≡ g
one_first [] f g p q = absurd p
one_first (r ∷ rs) f g (inl p) (inl q) = p.2 ∙ (ap r.fault (one_place r.places r.holds p.0 q.0 p.1 q.1) ∙ sym q.2)
one_first (r ∷ rs) f g (inl p) (inr q) = absurd (p.1.fails (q.0 p.0 p.1.is_place))
one_first (r ∷ rs) f g (inr p) (inl q) = absurd (q.1.fails (p.0 q.0 q.1.is_place))
one_first (r ∷ rs) f g (inr p) (inr q) = one_first rs f g p.1 q.1
