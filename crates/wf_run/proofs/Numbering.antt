-- Lists that are read by number.
use Rattle.std.proofs.Common.{◌≡◌, ℕ, ◌+◌, ◌<◌, List, ◌++◌, map, length, get_or, ap, sym, ◌∙◌, arith}
use Rattle.std.proofs.lemmas.List.{length-map, ext_get_or, get_or-append-add}
use Rattle.wf_model.specs.Lists.{numbers_from}
use Rattle.wf_model.proofs.NumberLists.{length-numbers, get_numbered}

-- the last elements of a list, each read by its number
pub read_last : {A : Type 0} (xs ys : List A) (k n : ℕ) (d : A) → length xs ≡ k → length ys ≡ n → map (λ i. get_or (xs ++ ys) i d) (numbers_from k n) ≡ ys
read_last xs ys k n d a b =
    ext_get_or d (map (λ i. get_or (xs ++ ys) i d) (numbers_from k n)) ys long
    (λ i h. let l : i < n = omega (arith, h, long, b) in
    get_numbered (λ i. get_or (xs ++ ys) i d) k n i d l ∙ (ap (λ j. get_or (xs ++ ys) (j + i) d) (sym a) ∙ get_or-append-add xs ys i d))
  where
    long : length (map (λ i. get_or (xs ++ ys) i d) (numbers_from k n)) ≡ length ys
    long = length-map (numbers_from k n) (λ i. get_or (xs ++ ys) i d) ∙ (length-numbers k n ∙ sym b)
