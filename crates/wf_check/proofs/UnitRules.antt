-- The unit productions of a grammar.
use Rattle.std.proofs.Common.{◌≡◌, ℕ, ◌+◌, ◌<◌, Option, Some, None, List, [], ◌∷◌, ◌++◌, length, get_or, take, sym, ap, ◌∙◌, add-one, zero-add, append-nil}
use Rattle.std.specs.List.{filter_map, cons_option}
use Rattle.std.proofs.lemmas.List.Elements.{filter_map-append}
use Rattle.std.proofs.lemmas.List.{get_or_default}
use Rattle.wf_model.specs.Lists.{IsIn, numbers_from}
use Rattle.wf_model.proofs.NumberLists.{numbers_from-last}
use Rattle.wf_spec.proofs.Listing.{all_take_more}
use Rattle.wf_check.specs.declared.unit.rule.UnitRule.{UnitRule}

-- what a number gives goes last
filter_map-last : {A : Type 0} (f : ℕ → Option A) (n : ℕ) → filter_map f (numbers_from 0 (n + 1)) ≡ filter_map f (numbers_from 0 n) ++ cons_option (f n) []
filter_map-last f n =
    ap (λ k. filter_map f (numbers_from 0 k)) (add-one n)
    ∙ ap (filter_map f) (numbers_from-last 0 n)
    ∙ filter_map-append f (numbers_from 0 n) ((0 + n) ∷ [])
    ∙ ap (λ k. filter_map f (numbers_from 0 n) ++ cons_option (f k) []) (zero-add n)

-- one number more, which gives an element
pub filter_map_more : {A : Type 0} (f : ℕ → Option A) (n : ℕ) (x : A) (old new : List A) → old ≡ filter_map f (numbers_from 0 n) → f n ≡ Some x → new ≡ old ++ x ∷ [] → new ≡ filter_map f (numbers_from 0 (n + 1))
filter_map_more f n x old new before gives is =
    is ∙ ap (λ xs. xs ++ x ∷ []) before
    ∙ sym (filter_map-last f n ∙ ap (λ o. filter_map f (numbers_from 0 n) ++ cons_option o []) gives)

-- one number more, which gives none
pub filter_map_same : {A : Type 0} (f : ℕ → Option A) (n : ℕ) (xs : List A) → xs ≡ filter_map f (numbers_from 0 n) → f n ≡ None → xs ≡ filter_map f (numbers_from 0 (n + 1))
filter_map_same f n xs before gives =
    before
    ∙ sym (filter_map-last f n ∙ ap (λ o. filter_map f (numbers_from 0 n) ++ cons_option o []) gives ∙ append-nil (filter_map f (numbers_from 0 n)))

-- what stands past the end of a list
abbrev pub no_rule : UnitRule
no_rule = record { number = record { 0 = 0 }; head = record { 0 = 0 }; target = record { 0 = 0 } }

-- what holds of the first k and of the next holds of the first k + 1
pub holds_more : {A : Type 0} (Holds : A → Type 0) (k : ℕ) (xs : List A) (d : A) → k < length xs → ((x : A) → IsIn x (take k xs) → Holds x) → Holds (get_or xs k d) → (x : A) → IsIn x (take (k + 1) xs) → Holds x
holds_more Holds k xs d below before now = all_take_more Holds xs k (get_or xs k d) before now (get_or_default xs k d (get_or xs k d) below) below
