-- Lists that are made number by number.
use Rattle.std.proofs.Common.{◌≡◌, ℕ, suc, ◌+◌, List, [], ◌∷◌, ◌++◌, map, sym, ap, ◌∙◌, append_assoc, arith}
use Rattle.std.proofs.lemmas.List.{map-append}
use Rattle.wf_model.specs.Lists.{numbers_from}
use Rattle.wf_model.proofs.NumberLists.{numbers_from-last}

pub numbers_more : (k : ℕ) → numbers_from 0 (k + 1) ≡ numbers_from 0 k ++ k ∷ []
numbers_more k =
    let more : k + 1 ≡ suc k = omega arith in
    let last : 0 + k ≡ k = omega arith in
    ap (numbers_from 0) more ∙ (numbers_from-last 0 k ∙ ap (λ n. numbers_from 0 k ++ n ∷ []) last)

-- what a function gives at the numbers so far, and at the next
pub numbered_more : {A : Type 0} (f : ℕ → A) (k : ℕ) (old now new : List A) → now ≡ old ++ map f (numbers_from 0 k) → new ≡ now ++ f k ∷ [] → new ≡ old ++ map f (numbers_from 0 (k + 1))
numbered_more f k old now new e h =
    h ∙ (ap (λ l. l ++ f k ∷ []) e ∙ (append_assoc old (map f (numbers_from 0 k)) (f k ∷ [])
    ∙ ap (λ l. old ++ l) (sym (ap (map f) (numbers_more k) ∙ map-append f (numbers_from 0 k) (k ∷ [])))))
