-- The mark on the report about one instance.
use Rattle.std.proofs.Common.{◌≡◌, ℕ, zero, suc, ◌<◌, ◌≤◌, ◌≢◌, ◌⊎◌, Bool, true, false, cond, ◌&&◌, List, [], ◌∷◌, map, length, get_or, Option, Some, None, bytes_eq, refl, ap, sym, ◌∙◌, arith, true≢false, inl, inr}
use Rattle.std.specs.Prelude.{position}
use Rattle.std.specs.Option.{option_eq}
use Rattle.std.specs.List.{count_by, slice_set, position_or_len, IsDistinct}
use Rattle.std.proofs.lemmas.Bool.{cases_lt}
use Rattle.std.proofs.lemmas.List.{get_or-map}
use Rattle.std.proofs.lemmas.List.Sums.{passes_at_first, fails_before_first}
use Rattle.std.proofs.lemmas.Map.Keys.{apart_from_distinct}
use Rattle.wf_model.proofs.Lists.{bytes_same}
use Rattle.report_model.specs.Kept.{Kept, is_held, kept_at}
use Rattle.report_model.proofs.Events.{option_same}
use Rattle.wf_inbox.specs.Inboxes.{marked, is_about}
use Rattle.wf_inbox.specs.Keeping.{subject_kept, made_ready}
use Rattle.wf_inbox.proofs.Found.{at_place, no_place}
use Rattle.wf_inbox.proofs.Known.{name_flip, same_length}
use Rattle.wf_inbox.proofs.Due.{none_held_at}

-- a change that leaves each as it is
pub unchanged : {A : Type 0} (f : A → A) (xs : List A) (d : A) → ((j : ℕ) → j < length xs → f (get_or xs j d) ≡ get_or xs j d) → map f xs ≡ xs
unchanged f [] d h = refl
unchanged f (x ∷ xs) d h = λ t. h 0 (omega arith) t ∷ unchanged f xs d (λ j m. h (suc j) (omega arith)) t

-- a change that leaves all but one as they are
pub changed_at : {A : Type 0} (f : A → A) (xs : List A) (i : ℕ) (d : A) → i < length xs → ((j : ℕ) → j < length xs → j ≢ i → f (get_or xs j d) ≡ get_or xs j d) →
    slice_set xs i (f (get_or xs i d)) ≡ map f xs
changed_at f [] i d l h = absurd (omega arith)
changed_at f (x ∷ xs) zero d l h = ap (λ ys. f x ∷ ys) (sym (unchanged f xs d (λ j m. h (suc j) (omega arith) (omega arith))))
changed_at f (x ∷ xs) (suc i) d l h = λ t. sym (h 0 (omega arith) (omega arith)) t ∷ changed_at f xs i d (omega arith) (λ j m n. h (suc j) (omega arith) (omega arith)) t

name_itself : (a : Option (List ℕ)) → option_eq bytes_eq a a ≡ true
name_itself None = refl
name_itself (Some x) = bytes_same x x refl

not_held : (name : List ℕ) (x : Kept) → x.held ≡ false → marked name x ≡ x
not_held name x e = ap (λ b. cond (b && is_about name x) (record { report = x.report; held = x.held; ready = true }) x) e

not_about : (name : List ℕ) (x : Kept) → is_about name x ≡ false → marked name x ≡ x
not_about name x e = by x.held
  where
    by : (b : Bool) → cond (b && is_about name x) (record { report = x.report; held = x.held; ready = true }) x ≡ x
    by true = ap (λ b. cond b (record { report = x.report; held = x.held; ready = true }) x) e
    by false = refl

about_it : (name : List ℕ) (x : Kept) → is_about name x ≡ true → made_ready x ≡ marked name x
about_it name x e = by x.held
  where
    by : (b : Bool) → cond b (record { report = x.report; held = x.held; ready = true }) x ≡ cond (b && is_about name x) (record { report = x.report; held = x.held; ready = true }) x
    by true = sym (ap (λ b. cond b (record { report = x.report; held = x.held; ready = true }) x) e)
    by false = refl

-- where none is held, none is marked
pub none_held_marked : (name : List ℕ) (kept : List Kept) → 0 ≡ count_by is_held kept → kept ≡ map (marked name) kept
none_held_marked name kept e = sym (unchanged (marked name) kept _ (λ j l. not_held name (kept_at kept j) (none_held_at kept j e l)))

module _ (name : List ℕ) (kept : List Kept) (names : List (Option (List ℕ))) (of : names ≡ map subject_kept kept) where
  seen_at : (j : ℕ) → j < length kept → get_or names j None ≡ subject_kept (kept_at kept j)
  seen_at j l = ap (λ ns. get_or ns j None) of ∙ get_or-map subject_kept kept j (kept_at [] 0) None l

  -- where none is about the name, none is marked
  pub none_about_marked : None ≡ position (option_eq bytes_eq (Some name)) names → kept ≡ map (marked name) kept
  none_about_marked e =
      let a = no_place (option_eq bytes_eq (Some name)) names e in
      let b = same_length kept names of in
      sym (unchanged (marked name) kept _ (λ j l. not_about name (kept_at kept j)
      (name_flip (subject_kept (kept_at kept j)) (Some name) ∙ (ap (option_eq bytes_eq (Some name)) (sym (seen_at j l)) ∙ fails_before_first (option_eq bytes_eq (Some name)) names j None (omega arith)))))

  module _ (i : ℕ) (once : IsDistinct (option_eq bytes_eq) names) (e : Some i ≡ position (option_eq bytes_eq (Some name)) names) where
    place : (i ≡ position_or_len (option_eq bytes_eq (Some name)) names) × (i < length names)
    place = at_place (option_eq bytes_eq (Some name)) names i e

    pub within : i < length kept
    within = let a = place.1 in let b = same_length kept names of in omega arith

    passes : option_eq bytes_eq (Some name) (get_or names i None) ≡ true
    passes =
        let l : position_or_len (option_eq bytes_eq (Some name)) names < length names = let a = place.0 in let b = place.1 in omega arith in
        ap (λ k. option_eq bytes_eq (Some name) (get_or names k None)) place.0 ∙ passes_at_first (option_eq bytes_eq (Some name)) names None l

    about_place : is_about name (kept_at kept i) ≡ true
    about_place = name_flip (subject_kept (kept_at kept i)) (Some name) ∙ (ap (option_eq bytes_eq (Some name)) (sym (seen_at i within)) ∙ passes)

    no_other : (j : ℕ) → j < length kept → j ≢ i → is_about name (kept_at kept j) ≡ false
    no_other j l n = by (is_about name (kept_at kept j)) refl (cases_lt j i)
      where
        by : (b : Bool) → is_about name (kept_at kept j) ≡ b → (j < i) ⊎ (i ≤ j) → is_about name (kept_at kept j) ≡ false
        by false f o = f
        by true f (inl m) =
            let s : get_or names j None ≡ get_or names i None = seen_at j l ∙ (option_same (subject_kept (kept_at kept j)) (Some name) f ∙ option_same (Some name) (get_or names i None) passes) in
            let a = apart_from_distinct (option_eq bytes_eq) names j i None once m place.1 in
            absurd (true≢false (sym (name_itself (get_or names i None)) ∙ (ap (λ z. option_eq bytes_eq z (get_or names i None)) (sym s) ∙ a)))
        by true f (inr m) =
            let s : get_or names j None ≡ get_or names i None = seen_at j l ∙ (option_same (subject_kept (kept_at kept j)) (Some name) f ∙ option_same (Some name) (get_or names i None) passes) in
            let k = same_length kept names of in
            let a = apart_from_distinct (option_eq bytes_eq) names i j None once (omega arith) (omega arith) in
            absurd (true≢false (sym (name_itself (get_or names i None)) ∙ (ap (λ z. option_eq bytes_eq (get_or names i None) z) (sym s) ∙ a)))

    -- the report about the name is made ready, and no other is marked
    pub marked_at : (x y : Kept) → x ≡ kept_at kept i → y ≡ made_ready x → slice_set kept i y ≡ map (marked name) kept
    marked_at x y a b =
        ap (slice_set kept i) (b ∙ (ap made_ready a ∙ about_it name (kept_at kept i) about_place)) ∙ changed_at (marked name) kept i _ within (λ j l n. not_about name (kept_at kept j) (no_other j l n))
