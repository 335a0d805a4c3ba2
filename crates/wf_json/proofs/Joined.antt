-- Texts that are joined by number.
use Rattle.std.proofs.Common.{◌≡◌, ℕ, zero, suc, ◌+◌, cond, List, [], ◌∷◌, ◌++◌, length, get_or, refl, sym, ap, ◌∙◌, arith, add-one, append_assoc, subst, OnOk, codes}
use Rattle.std.specs.Prelude.{◌==◌}
use Rattle.std.proofs.lemmas.Bool.{ne_eqb}
use Rattle.std.specs.List.{join_by, flat_map}
use Rattle.std.specs.declared.result.Result.{Result}
use Rattle.std.proofs.lemmas.Grind.{flat_map-append}
use Rattle.std.proofs.lemmas.List.{append-nil}
use Rattle.wf_model.specs.Lists.{numbers_from}
use Rattle.wf_model.proofs.NumberLists.{numbers_from-last}
use Rattle.wf_json.specs.Canonical.{list_of}
use Rattle.wf_json.specs.Writing.{Takes}
use Rattle.wf_json.proofs.Taken.{behind, renamed}

-- one text more, with the separator before it where it is not the first
pub join_by-more : (text : ℕ → List ℕ) (sep : List ℕ) (k : ℕ) → join_by text sep (numbers_from 0 (k + 1)) ≡ join_by text sep (numbers_from 0 k) ++ (cond (k == 0) [] sep ++ text k)
join_by-more text sep zero = append-nil (text 0)
join_by-more text sep (suc k) =
    let f = λ (n : ℕ). sep ++ text n in
    let e : 1 + k ≡ suc k = omega arith in
    ap (λ n. join_by text sep (numbers_from 0 n)) (add-one (suc k))
    ∙ ap (λ ns. text 0 ++ flat_map f ns) (numbers_from-last 1 k)
    ∙ ap (λ t. text 0 ++ t) (flat_map-append f (numbers_from 1 k) ((1 + k) ∷ []))
    ∙ ap (λ n. text 0 ++ (flat_map f (numbers_from 1 k) ++ flat_map f (n ∷ []))) e
    ∙ ap (λ t. text 0 ++ (flat_map f (numbers_from 1 k) ++ t)) (append-nil (f (suc k)))
    ∙ sym (append_assoc (text 0) (flat_map f (numbers_from 1 k)) (f (suc k)))
    ∙ ap (λ b. join_by text sep (numbers_from 0 (suc k)) ++ (cond b [] sep ++ text (suc k))) (sym (ne_eqb (suc k) 0 (λ e. absurd (omega arith))))

-- a loop that takes the separator and the text of its number has taken one text more
pub joined_more : {S : Type 0} {holds : S → List ℕ → Type 0} {start before between after : S} (text : ℕ → List ℕ) (sep : List ℕ) (k : ℕ) → Takes holds start before (join_by text sep (numbers_from 0 k))
    → Takes holds before between (cond (k == 0) [] sep) → Takes holds between after (text k) → Takes holds start after (join_by text sep (numbers_from 0 (k + 1)))
joined_more text sep k so_far separated taken =
    renamed (append_assoc (join_by text sep (numbers_from 0 k)) (cond (k == 0) [] sep) (text k) ∙ sym (join_by-more text sep k)) (behind (behind so_far separated) taken)

shifted : {A : Type 0} (f : A → List ℕ) (x : A) (xs : List A) (d : A) (j n : ℕ) → flat_map (λ k. f (get_or (x ∷ xs) k d)) (numbers_from (suc j) n) ≡ flat_map (λ k. f (get_or xs k d)) (numbers_from j n)
shifted f x xs d j zero = refl
shifted f x xs d j (suc n) = ap (λ t. f (get_or xs j d) ++ t) (shifted f x xs d (suc j) n)

flat_map-by_number : {A : Type 0} (f : A → List ℕ) (xs : List A) (d : A) → flat_map (λ k. f (get_or xs k d)) (numbers_from 0 (length xs)) ≡ flat_map f xs
flat_map-by_number f [] d = refl
flat_map-by_number f (x ∷ xs) d = ap (λ t. f x ++ t) (shifted f x xs d 0 (length xs) ∙ flat_map-by_number f xs d)

-- the texts of a list's elements are those of its numbers
pub join_by-by_number : {A : Type 0} (text : A → List ℕ) (sep : List ℕ) (xs : List A) (d : A) → join_by (λ k. text (get_or xs k d)) sep (numbers_from 0 (length xs)) ≡ join_by text sep xs
join_by-by_number text sep [] d = refl
join_by-by_number text sep (x ∷ xs) d =
    let f = λ (y : _). sep ++ text y in
    ap (λ t. text x ++ t) (shifted f x xs d 0 (length xs) ∙ flat_map-by_number f xs d)

-- a list that was taken by number was taken
pub list_taken : {A E S : Type 0} (holds : S → List ℕ → Type 0) (old new : S) (text : A → List ℕ) (xs : List A) (d : A) (count : ℕ) (r : Result (Unit {0}) E) → count ≡ length xs
    → OnOk r (Takes holds old new (list_of (λ k. text (get_or xs k d)) (numbers_from 0 count))) → OnOk r (Takes holds old new (list_of text xs))
list_taken holds old new text xs d count r all done =
    subst (λ (t : List ℕ). OnOk r (Takes holds old new t))
    (ap (λ n. list_of (λ k. text (get_or xs k d)) (numbers_from 0 n)) all ∙ ap (λ t. codes "[" ++ t ++ codes "]") (join_by-by_number text (codes ",") xs d)) done
