-- Lists one behind the other.
use Rattle.std.proofs.Common.{◌≡◌, ℕ, suc, ◌+◌, Bool, ◌||◌, List, [], ◌∷◌, ◌++◌, map, refl, sym, ap, ◌∙◌, append_assoc, arith}
use Rattle.std.proofs.lemmas.List.{map-append}
use Rattle.wf_model.specs.Lists.{some, numbers_from}
use Rattle.wf_model.proofs.NumberLists.{numbers_from-last}
use Rattle.wf_model.proofs.Tests.{or-assoc}

-- some element of both passes a test if some element of either does
pub some-append : {A : Type 0} (p : A → Bool) (xs ys : List A) → some p (xs ++ ys) ≡ some p xs || some p ys
some-append p [] ys = refl
some-append p (x ∷ xs) ys = ap (λ b. p x || b) (some-append p xs ys) ∙ or-assoc (p x) (some p xs) (some p ys)

-- the value of one number more
pub value_more : {A : Type 0} (f : ℕ → A) (k : ℕ) (before old new : List A) (x : A) → old ≡ before ++ map f (numbers_from 0 k) → x ≡ f k → new ≡ old ++ x ∷ [] → new ≡ before ++ map f (numbers_from 0 (k + 1))
value_more f k before old new x so_far value pushed =
    let one : k + 1 ≡ suc k = omega arith in
    let last : 0 + k ≡ k = omega arith in
    pushed ∙ (ap (λ l. l ++ x ∷ []) so_far ∙ (append_assoc before (map f (numbers_from 0 k)) (x ∷ [])
    ∙ ap (λ l. before ++ l) (ap (λ y. map f (numbers_from 0 k) ++ y ∷ []) (value ∙ sym (ap f last))
    ∙ (sym (map-append f (numbers_from 0 k) ((0 + k) ∷ [])) ∙ (sym (ap (map f) (numbers_from-last 0 k)) ∙ ap (λ j. map f (numbers_from 0 j)) (sym one))))))
