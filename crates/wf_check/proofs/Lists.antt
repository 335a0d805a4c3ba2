-- The order of filtered numbers, and elements by their places.
use Rattle.std.proofs.Common.{◌≡◌, ℕ, zero, suc, ◌<◌, ◌≤◌, Bool, true, false, cond, List, [], ◌∷◌, length, get_or, map, sym, ◌∙◌, arith}
use Rattle.std.specs.List.{filter}
use Rattle.wf_model.specs.Lists.{IsAt, numbers_from}
use Rattle.wf_model.proofs.Lists.{at_in, in_filter_from}
use Rattle.wf_model.proofs.NumberLists.{from_first}

-- what stands later among the numbers that pass a test is not less
pub filtered_order : (t : ℕ → Bool) (k n i j x y : ℕ) → i ≤ j → IsAt x i (filter t (numbers_from k n)) → IsAt y j (filter t (numbers_from k n)) → x ≤ y
filtered_order t k zero i j x y h a b = absurd a
filtered_order t k (suc n) i j x y h a b = go (λ i j h a b. filtered_order t (suc k) n i j x y h a b) (t k) i j h a b
  where
    go : ((i j : ℕ) → i ≤ j → IsAt x i (filter t (numbers_from (suc k) n)) → IsAt y j (filter t (numbers_from (suc k) n)) → x ≤ y) → (c : Bool) (i j : ℕ) → i ≤ j → IsAt x i (cond c (k ∷ filter t (numbers_from (suc k) n)) (filter t (numbers_from (suc k) n)))
        → IsAt y j (cond c (k ∷ filter t (numbers_from (suc k) n)) (filter t (numbers_from (suc k) n))) → x ≤ y
    go later false i j h a b = later i j h a b
    go later true zero zero h a b = let e : x ≡ y = a ∙ sym b in omega arith
    go later true zero (suc j) h a b =
        let r : suc k ≤ y = from_first y (suc k) n (in_filter_from t y (numbers_from (suc k) n) (at_in y j (filter t (numbers_from (suc k) n)) b)).0 in
        let e : x ≡ k = a in
        omega arith
    go later true (suc i) zero h a b = absurd (omega arith)
    go later true (suc i) (suc j) h a b = let l : i ≤ j = omega arith in later i j l a b

pub map_at : {A B : Type 0} (f : A → B) (xs : List A) (y : B) (k : ℕ) (d : A) → IsAt y k (map f xs) → (k < length xs) × (f (get_or xs k d) ≡ y)
map_at f [] y k d h = absurd h
map_at f (x ∷ xs) y zero d h = (omega arith, sym h)
map_at f (x ∷ xs) y (suc k) d h = let r = map_at f xs y k d h in let l = r.0 in (omega arith, r.1)
