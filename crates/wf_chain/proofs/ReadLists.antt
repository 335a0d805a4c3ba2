-- What is read at a place of a list that is another.
use Rattle.std.proofs.Common.{◌≡◌, ℕ, ◌+◌, ◌<◌, List, [], ◌∷◌, ◌++◌, take, flat_map, length, get_or, sym, ap, subst, ◌∙◌, append-nil}
use Rattle.std.proofs.lemmas.List.{take_more}
use Rattle.std.proofs.lemmas.List.Concat.{flat_map-append}
use Rattle.wf_model.specs.Lists.{IsIn}
use Rattle.wf_model.proofs.Lists.{is_at, at_in}

module _ {A : Type 0} (xs ys : List A) (k : ℕ) (d : A) (same : xs ≡ ys) (there : k < length xs) where
  pub read_in : IsIn (get_or xs k d) ys
  read_in = subst (IsIn (get_or xs k d)) same (at_in (get_or xs k d) k xs (is_at k xs d there))

  -- what a function gives at the elements so far, and at the one that is read
  pub flat_map_read : {B : Type 0} (f : A → List B) → flat_map f (take (k + 1) ys) ≡ flat_map f (take k ys) ++ f (get_or xs k d)
  flat_map_read f =
      let more = take_more xs k d there in
      ap (λ l. flat_map f (take (k + 1) l)) (sym same) ∙ (ap (flat_map f) more ∙ (flat_map-append f (take k xs) (get_or xs k d ∷ [])
      ∙ ((λ z. flat_map f (take k (same z)) ++ append-nil (f (get_or xs k d)) z))))
