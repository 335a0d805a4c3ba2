-- Texts for each of some numbers, in order.
use Rattle.std.proofs.Common.{◌≡◌, ℕ, zero, suc, ◌+◌, Bool, true, false, cond, List, [], ◌∷◌, ◌++◌, refl, sym, ap, ◌∙◌, arith, append_assoc}
use Rattle.std.specs.Prelude.{filter, flat_map}
use Rattle.std.proofs.lemmas.List.{flat_map_more}
use Rattle.wf_model.specs.Lists.{numbers_from}
use Rattle.wf_model.proofs.NumberLists.{numbers_from-last}

-- texts of the numbers that pass a test
pub texts_tested : (f : ℕ → List ℕ) (test : ℕ → Bool) (ns : List ℕ) → flat_map f (filter test ns) ≡ flat_map (λ k. cond (test k) (f k) []) ns
texts_tested f test [] = refl
texts_tested f test (k ∷ ns) = go (texts_tested f test ns) (test k)
  where
    go : flat_map f (filter test ns) ≡ flat_map (λ j. cond (test j) (f j) []) ns → (b : Bool) → flat_map f (cond b (k ∷ filter test ns) (filter test ns)) ≡ cond b (f k) [] ++ flat_map (λ j. cond (test j) (f j) []) ns
    go later true = ap (λ t. f k ++ t) later
    go later false = later

-- texts of numbers from j on begin with those of the first k, and then that of the next
pub texts_split : (f : ℕ → List ℕ) (j k n : ℕ) → (rest : List ℕ) × (flat_map f (numbers_from j (k + suc n)) ≡ flat_map f (numbers_from j k) ++ (f (j + k) ++ rest))
texts_split f j zero n =
    let e : 0 + suc n ≡ suc n = omega arith in
    let s : j ≡ j + 0 = omega arith in
    (flat_map f (numbers_from (suc j) n), ap (λ i. flat_map f (numbers_from j i)) e ∙ ap (λ i. f i ++ flat_map f (numbers_from (suc j) n)) s)
texts_split f j (suc k) n =
    let e : suc k + suc n ≡ suc (k + suc n) = omega arith in
    let s : suc j + k ≡ j + suc k = omega arith in
    let r = texts_split f (suc j) k n in (
      r.0,
      ap (λ i. flat_map f (numbers_from j i)) e
          ∙ ap (λ t. f j ++ t) r.1
          ∙ sym (append_assoc (f j) (flat_map f (numbers_from (suc j) k)) (f (suc j + k) ++ r.0))
          ∙ ap (λ i. flat_map f (numbers_from j (suc k)) ++ (f i ++ r.0)) s,
    )

-- the text of one number more was appended
pub text_more : (f : ℕ → List ℕ) (k : ℕ) (start before after : List ℕ) → before ≡ start ++ flat_map f (numbers_from 0 k) → after ≡ before ++ f k → after ≡ start ++ flat_map f (numbers_from 0 (k + 1))
text_more f k start before after so_far more =
    let last : numbers_from 0 k ++ k ∷ [] ≡ numbers_from 0 (k + 1) =
    ap (λ j. numbers_from 0 k ++ j ∷ []) (let e : k ≡ 0 + k = omega arith in e) ∙ sym (numbers_from-last 0 k) ∙ ap (numbers_from 0) (let e : suc k ≡ k + 1 = omega arith in e) in
    more ∙ ap (λ t. t ++ f k) so_far ∙ flat_map_more f start (numbers_from 0 k) k ∙ ap (λ ns. start ++ flat_map f ns) last
