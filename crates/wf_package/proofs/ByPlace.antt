-- What is made of each element and its place.
use Rattle.std.proofs.Common.{◌≡◌, ℕ, suc, ◌+◌, ◌<◌, ◌≤◌, List, [], ◌∷◌, ◌++◌, length, take, get_or, sym, ap, ◌∙◌, arith, add-one, append_assoc, append-nil}
use Rattle.std.proofs.Math.Seq.{take-suc}
use Rattle.std.proofs.lemmas.List.{length-take-le, take_all}
use Rattle.wf_package.specs.Parts.{made_by_place}

module _ {A B : Type 0} (make : ℕ → A → List B) where
  made_by_place-append : (k : ℕ) (xs ys : List A) → made_by_place make k (xs ++ ys) ≡ made_by_place make k xs ++ made_by_place make (k + length xs) ys
  made_by_place-append k [] ys = let e : k ≡ k + 0 = omega arith in ap (λ n. made_by_place make n ys) e
  made_by_place-append k (x ∷ xs) ys =
      let e : suc k + length xs ≡ k + suc (length xs) = omega arith in
      ap (λ l. make k x ++ l) (made_by_place-append (suc k) xs ys ∙ ap (λ n. made_by_place make (suc k) xs ++ made_by_place make n ys) e)
      ∙ sym (append_assoc (make k x) (made_by_place make (suc k) xs) (made_by_place make (k + suc (length xs)) ys))

  -- with one element more
  pub made_by_place-more : (xs : List A) (j : ℕ) (x : A) → j < length xs → x ≡ get_or xs j x → made_by_place make 0 (take (j + 1) xs) ≡ made_by_place make 0 (take j xs) ++ make j x
  made_by_place-more xs j x h is =
      let e : 0 + length (take j xs) ≡ j = omega (arith, length-take-le j xs (omega arith)) in
      ap (λ n. made_by_place make 0 (take n xs)) (add-one j)
      ∙ ap (made_by_place make 0) (take-suc xs j x h)
      ∙ made_by_place-append 0 (take j xs) (get_or xs j x ∷ [])
      ∙ ap (λ n. made_by_place make 0 (take j xs) ++ made_by_place make n (get_or xs j x ∷ [])) e
      ∙ ap (λ l. made_by_place make 0 (take j xs) ++ l) (append-nil (make j (get_or xs j x)))
      ∙ ap (λ y. made_by_place make 0 (take j xs) ++ make j y) (sym is)

  -- a list to which that of one element more was added
  pub place_more : {ys zs : List B} (xs : List A) (j : ℕ) (x : A) → j < length xs → x ≡ get_or xs j x → ys ≡ made_by_place make 0 (take j xs) → zs ≡ ys ++ make j x → zs ≡ made_by_place make 0 (take (j + 1) xs)
  place_more xs j x h is so_far added = added ∙ ap (λ l. l ++ make j x) so_far ∙ sym (made_by_place-more xs j x h is)

  -- all of it
  pub place_all : (xs : List A) (n : ℕ) → length xs ≤ n → made_by_place make 0 (take n xs) ≡ made_by_place make 0 xs
  place_all xs n h = ap (made_by_place make 0) (take_all n xs h)
