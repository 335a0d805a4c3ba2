-- The pairs of rows, and whether they are all.
use Rattle.std.proofs.Common.{◌≡◌, ℕ, zero, suc, ◌+◌, ◌<◌, ◌&&◌, Bool, true, false, cond, List, [], ◌∷◌, ◌++◌, refl, sym, ap, ap₂, ◌∙◌, inl, inr, arith, add-one, append-nil, append_assoc}
use Rattle.std.specs.List.{flat_map, list_all}
use Rattle.std.proofs.lemmas.Grind.{flat_map-append}
use Rattle.std.proofs.lemmas.List.Folds.{list_all-append}
use Rattle.wf_model.specs.Lists.{IsIn, numbers_from}
use Rattle.wf_model.proofs.Level.{in_numbers}
use Rattle.wf_model.proofs.NumberLists.{numbers_from-last}
use Rattle.package_model.specs.Shown.{pairs_of_input, pairs_within}
use Rattle.package_model.specs.Packages.{is_among, has_all}
use Rattle.package_model.proofs.ShownPairs.{pair_within}
use Rattle.wf_package.specs.Parts.{all_pairs_pass}
use Rattle.wf_package.proofs.FlaggedPlaces.{nought}

-- what is made of one number more
pub pieces_more : {B : Type 0} (f : ℕ → List B) (k : ℕ) (start before after : List B) → before ≡ start ++ flat_map f (numbers_from 0 k) → after ≡ before ++ f k → after ≡ start ++ flat_map f (numbers_from 0 (k + 1))
pieces_more f k start before after so_far added =
    added ∙ ap (λ l. l ++ f k) so_far ∙ append_assoc start (flat_map f (numbers_from 0 k)) (f k)
    ∙ ap (λ l. start ++ l) (sym (
    ap (λ n. flat_map f (numbers_from 0 n)) (add-one k) ∙ ap (flat_map f) (numbers_from-last 0 k) ∙ flat_map-append f (numbers_from 0 k) ((0 + k) ∷ [])
    ∙ ap (λ m. flat_map f (numbers_from 0 k) ++ flat_map f (m ∷ [])) (nought k)
    ∙ ap (λ l. flat_map f (numbers_from 0 k) ++ l) (append-nil (f k))))

-- one number more passes
pub one_more_passes : (t : ℕ → Bool) (k : ℕ) → list_all t (numbers_from 0 k) ≡ true → t k ≡ true → list_all t (numbers_from 0 (k + 1)) ≡ true
one_more_passes t k so_far passes =
    ap (λ n. list_all t (numbers_from 0 n)) (add-one k) ∙ ap (list_all t) (numbers_from-last 0 k) ∙ list_all-append t (numbers_from 0 k) ((0 + k) ∷ [])
    ∙ ap (λ m. list_all t (numbers_from 0 k) && list_all t (m ∷ [])) (nought k)
    ∙ ap₂ (λ a b. a && (b && true)) so_far passes

-- one does not
pub not_all : (t : ℕ → Bool) (k j n : ℕ) → j < n → t (k + j) ≡ false → list_all t (numbers_from k n) ≡ false
not_all t k j zero h p = absurd (omega arith)
not_all t k zero (suc n) h p = let e : k ≡ k + 0 = omega arith in ap (λ b. b && list_all t (numbers_from (suc k) n)) (ap t e ∙ p)
not_all t k (suc j) (suc n) h p =
    let e : suc k + j ≡ k + suc j = omega arith in
    ap (λ b. t k && b) (not_all t (suc k) j n (omega arith) (ap t e ∙ p)) ∙ go (t k)
  where
    go : (b : Bool) → b && false ≡ false
    go true = refl
    go false = refl

pub list_all-same : (t v : ℕ → Bool) (xs : List ℕ) → ((x : ℕ) → IsIn x xs → t x ≡ v x) → list_all t xs ≡ list_all v xs
list_all-same t v [] same = refl
list_all-same t v (x ∷ xs) same = ap₂ (λ a b. a && b) (same x (inl refl)) (list_all-same t v xs (λ y h. same y (inr h)))

pub flat_map-same : {B : Type 0} (f h : ℕ → List B) (xs : List ℕ) → ((x : ℕ) → IsIn x xs → f x ≡ h x) → flat_map f xs ≡ flat_map h xs
flat_map-same f h [] same = refl
flat_map-same f h (x ∷ xs) same = ap₂ (λ a b. a ++ b) (same x (inl refl)) (flat_map-same f h xs (λ y i. same y (inr i)))

module _ (ins outs : ℕ) (t v : ℕ → ℕ → Bool) (same : (i o : ℕ) → i < ins → o < outs → t i o ≡ v i o) where
  at : (i o : ℕ) → IsIn i (numbers_from 0 ins) → IsIn o (numbers_from 0 outs) → t i o ≡ v i o
  at i o hi ho = let a : i < 0 + ins = in_numbers i 0 ins hi in let b : o < 0 + outs = in_numbers o 0 outs ho in same i o (omega arith) (omega arith)

  -- tests that agree have the same pairs
  pub pairs_within-same : pairs_within ins outs t ≡ pairs_within ins outs v
  pairs_within-same =
      flat_map-same (λ i. pairs_of_input i outs (t i)) (λ i. pairs_of_input i outs (v i)) (numbers_from 0 ins)
      (λ i hi. flat_map-same (λ o. cond (t i o) ((i, o) ∷ []) []) (λ o. cond (v i o) ((i, o) ∷ []) []) (numbers_from 0 outs) (λ o ho. ap (λ b. cond {A = List (ℕ × ℕ)} b ((i, o) ∷ []) []) (at i o hi ho)))

  -- and both pass all, or neither does
  pub all_pairs_pass-same : all_pairs_pass ins outs t ≡ all_pairs_pass ins outs v
  all_pairs_pass-same =
      list_all-same (λ i. list_all (t i) (numbers_from 0 outs)) (λ i. list_all (v i) (numbers_from 0 outs)) (numbers_from 0 ins)
      (λ i hi. list_all-same (t i) (v i) (numbers_from 0 outs) (λ o ho. at i o hi ho))

-- the pairs that pass are all exactly if each passes
pub has_all-pass : (ins outs : ℕ) (t : ℕ → ℕ → Bool) → has_all ins outs (pairs_within ins outs t) ≡ all_pairs_pass ins outs t
has_all-pass ins outs t = all_pairs_pass-same ins outs (λ i o. is_among (pairs_within ins outs t) (i, o)) t (λ i o hi ho. pair_within ins outs t i o hi ho)
