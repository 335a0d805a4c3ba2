-- Instances of a run by their numbers, and the places that are kept for them.
use Rattle.std.proofs.Common.{◌≡◌, ℕ, ◌≤◌, ◌+◌, Bool, true, false, ◌||◌, cond, zero, suc, ◌-◌, List, [], ◌∷◌, ◌++◌, length, get_or, Option, None, Some, refl, sym, ap, ◌∙◌, arith}
use Rattle.std.specs.Prelude.{position, is_some, replicate, bytes_eq}
use Rattle.std.specs.Option.{option_or}
use Rattle.std.specs.List.{position_from}
use Rattle.std.proofs.lemmas.Iterator.Adapters.{position_from-zero}
use Rattle.std.proofs.lemmas.List.{get_or_append_left, get_or-append_right, length-set, get_or-set_same, get_or-set_other}
use Rattle.std.proofs.lemmas.List.Quantifiers.{position-Some}
use Rattle.wf_model.specs.Lists.{some}
use Rattle.wf_model.proofs.Lists.{same_bytes}
use Rattle.wf_intake.specs.declared.reported.ReportedBy.{ReportedBy}
use Rattle.wf_intake.specs.Reported.{expansion_at, expanded_at}

from_some : {A : Type 0} (t : A → Bool) (i : ℕ) (xs : List A) → is_some (position_from t i xs) ≡ some t xs
from_some t i [] = refl
from_some t i (x ∷ xs) = go (t x) (from_some t (i + 1) xs)
  where
    go : (b : Bool) → is_some (position_from t (i + 1) xs) ≡ some t xs → is_some (cond b (Some i) (position_from t (i + 1) xs)) ≡ (b || some t xs)
    go true e = refl
    go false e = e

from_append : {A : Type 0} (t : A → Bool) (i : ℕ) (xs ys : List A) → position_from t i (xs ++ ys) ≡ option_or (position_from t i xs) (position_from t (i + length xs) ys)
from_append t i [] ys = let e : i ≡ i + 0 = omega arith in ap (λ n. position_from t n ys) e
from_append t i (x ∷ xs) ys = go (t x) (from_append t (i + 1) xs ys)
  where
    go : (b : Bool) → position_from t (i + 1) (xs ++ ys) ≡ option_or (position_from t (i + 1) xs) (position_from t (i + 1 + length xs) ys) →
        cond b (Some i) (position_from t (i + 1) (xs ++ ys)) ≡ option_or (cond b (Some i) (position_from t (i + 1) xs)) (position_from t (i + length (x ∷ xs)) ys)
    go true e = refl
    go false e = let n : i + 1 + length xs ≡ i + length (x ∷ xs) = omega arith in e ∙ ap (λ k. option_or (position_from t (i + 1) xs) (position_from t k ys)) n

from_least : {A : Type 0} (t : A → Bool) (i : ℕ) (xs : List A) (k : ℕ) → position_from t i xs ≡ Some k → i ≤ k
from_least t i [] k e = absurd (cc)
from_least t i (x ∷ xs) k e = go (t x) (from_least t (i + 1) xs k) e
  where
    go : (b : Bool) → (position_from t (i + 1) xs ≡ Some k → i + 1 ≤ k) → cond b (Some i) (position_from t (i + 1) xs) ≡ Some k → i ≤ k
    go true ih e = let q : i ≡ k = cc in omega (arith, q)
    go false ih e = let q = ih e in omega (arith, q)

-- an element that passes has a number
pub has_number : {A : Type 0} (t : A → Bool) (xs : List A) → is_some (position t xs) ≡ some t xs
has_number t xs = ap is_some (position_from-zero t xs) ∙ from_some t 0 xs

get_empty : (n k : ℕ) → get_or (replicate {A = Option ReportedBy} n None) k None ≡ None
get_empty zero k = refl
get_empty (suc n) zero = refl
get_empty (suc n) (suc k) = get_empty n k

-- where instances are added that are not expanded, each instance is as it was
pub expansion_more : (t : List ℕ → Bool) (xs ys : List (List ℕ)) (slots : List (Option ReportedBy)) (n : ℕ) → length slots ≡ length xs →
    expansion_at (slots ++ replicate n None) (position t (xs ++ ys)) ≡ expansion_at slots (position t xs)
expansion_more t xs ys slots n e =
    ap (expansion_at (slots ++ replicate n None)) (position_from-zero t (xs ++ ys) ∙ (from_append t 0 xs ys ∙ ap (λ m. option_or (position_from t 0 xs) (position_from t m ys)) zero_less)) ∙
    go (position t xs) refl (position_from t (length xs) ys) refl
  where
    zero_less : 0 + length xs ≡ length xs
    zero_less = omega arith

    go : (o : Option ℕ) → position t xs ≡ o → (m : Option ℕ) → position_from t (length xs) ys ≡ m → expansion_at (slots ++ replicate n None) (option_or (position_from t 0 xs) (position_from t (length xs) ys)) ≡ expansion_at slots (position t xs)
    go o p m q = ap (λ z. expansion_at (slots ++ replicate n None) (option_or z (position_from t (length xs) ys))) (sym (position_from-zero t xs) ∙ p) ∙ (ap (λ z. expansion_at (slots ++ replicate n None) (option_or o z)) q ∙ (each o p m q ∙ ap (expansion_at slots) (sym p)))
      where
        each : (o : Option ℕ) → position t xs ≡ o → (m : Option ℕ) → position_from t (length xs) ys ≡ m → expansion_at (slots ++ replicate n None) (option_or o m) ≡ expansion_at slots o
        each None p None q = refl
        each None p (Some k) q = let l = from_least t (length xs) ys k q in get_or-append_right slots (replicate n None) (length xs) k None e l ∙ get_empty n (k - length xs)
        each (Some k) p m q = let l = (position-Some t xs k [] p).0 in get_or_append_left slots (replicate n None) None k (omega (arith, l, e))

-- the expansion of an instance that has a number
pub expansion_itself : (names : List (List ℕ)) (slots : List (Option ReportedBy)) (i : List ℕ) (by : ReportedBy) → length slots ≡ length names → is_some (position (bytes_eq i) names) ≡ true →
    expansion_at (expanded_at slots (position (bytes_eq i) names) by) (position (bytes_eq i) names) ≡ Some by
expansion_itself names slots i by e s = go (position (bytes_eq i) names) refl s
  where
    go : (o : Option ℕ) → position (bytes_eq i) names ≡ o → is_some o ≡ true → expansion_at (expanded_at slots o by) o ≡ Some by
    go None p s = absurd (cc)
    go (Some k) p s = let l = (position-Some (bytes_eq i) names k [] p).0 in get_or-set_same slots k (Some by) None (omega (arith, l, e))

-- and that of another
pub expansion_other_one : (names : List (List ℕ)) (slots : List (Option ReportedBy)) (i j : List ℕ) (by : ReportedBy) → (i ≡ j → ⊥) →
    expansion_at (expanded_at slots (position (bytes_eq i) names) by) (position (bytes_eq j) names) ≡ expansion_at slots (position (bytes_eq j) names)
expansion_other_one names slots i j by n = go (position (bytes_eq i) names) refl (position (bytes_eq j) names) refl
  where
    go : (o : Option ℕ) → position (bytes_eq i) names ≡ o → (u : Option ℕ) → position (bytes_eq j) names ≡ u → expansion_at (expanded_at slots o by) u ≡ expansion_at slots u
    go None p u q = refl
    go (Some k) p None q = refl
    go (Some k) p (Some m) q = get_or-set_other slots k m (Some by) None (λ e. n (apart k m e p q))
      where
        apart : (k m : ℕ) → m ≡ k → position (bytes_eq i) names ≡ Some k → position (bytes_eq j) names ≡ Some m → i ≡ j
        apart k m e p q =
            let a = same_bytes i (get_or names k []) (position-Some (bytes_eq i) names k [] p).1 in
            let b = same_bytes j (get_or names m []) (position-Some (bytes_eq j) names m [] q).1 in
            a ∙ (ap (λ z. get_or names z []) (sym e) ∙ sym b)

pub length_expanded : (slots : List (Option ReportedBy)) (o : Option ℕ) (by : ReportedBy) → length (expanded_at slots o by) ≡ length slots
length_expanded slots None by = refl
length_expanded slots (Some k) by = length-set slots k (Some by)
