-- A part of a buffer, after a step of its start and after a write behind it.
use Rattle.std.proofs.Common.{◌≡◌, ℕ, ◌+◌, ◌-◌, ◌≤◌, List, ◌++◌, take, drop, sym, ap, ◌∙◌, arith}
use Rattle.std.proofs.lemmas.List.{drop-take, drop-drop}
use lib.Seq.{take-add}

-- a part from a later start is what is left of it
pub passed : (xs : List ℕ) (start end count : ℕ) → start + count ≤ end → take (end - (start + count)) (drop (start + count) xs) ≡ drop count (take (end - start) (drop start xs))
passed xs start end count inside =
    let parts : end - start ≡ count + (end - (start + count)) = omega arith in
    sym (ap (λ j. drop count (take j (drop start xs))) parts ∙ drop-take count _ (drop start xs) ∙ ap (take (end - (start + count))) (drop-drop count start xs))

-- where the bytes before its end are the same, a part is the same
pub kept : (xs ys : List ℕ) (start size : ℕ) → take (start + size) xs ≡ take (start + size) ys → take size (drop start xs) ≡ take size (drop start ys)
kept xs ys start size same = sym (drop-take start size xs) ∙ ap (drop start) same ∙ drop-take start size ys

-- a part that ends later has what is behind it too
pub longer : (xs : List ℕ) (start size more : ℕ) → take (size + more) (drop start xs) ≡ take size (drop start xs) ++ take more (drop (start + size) xs)
longer xs start size more = take-add size more (drop start xs) ∙ ap (λ l. take size (drop start xs) ++ take more l) (drop-drop size start xs)
