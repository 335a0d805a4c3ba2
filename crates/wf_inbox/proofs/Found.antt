-- Subjects that are found by a test, and a new one that goes last.
use Rattle.std.proofs.Common.{◌≡◌, ℕ, ◌<◌, ◌≤◌, ◌+◌, Bool, true, false, cond, ◌||◌, List, [], ◌∷◌, ◌++◌, map, length, Option, Some, None, option_map, bytes_eq, refl, ap, sym, ◌∙◌, arith, not}
use Rattle.std.specs.Prelude.{position, nat_lt, if◌then◌else◌}
use Rattle.std.specs.Option.{option_eq}
use Rattle.std.specs.List.{list_any, position_or_len, AllByRecursion, IsDistinct}
use Rattle.std.proofs.lemmas.Bool.Decides.{nat_tests}
use Rattle.std.proofs.lemmas.List.{map-append}
use Rattle.wf_names.proofs.Found.{position_through}

-- what a key is seen as
module _ {A : Type 0} (f : A → List ℕ) where
  pub key_test : (q x : Option A) → option_eq bytes_eq (option_map f q) (option_map f x) ≡ option_eq (λ a b. bytes_eq (f a) (f b)) q x
  key_test None None = refl
  key_test None (Some y) = refl
  key_test (Some x) None = refl
  key_test (Some x) (Some y) = refl

  pub key_place : (q : Option A) (keys : List (Option A)) → position (option_eq bytes_eq (option_map f q)) (map (option_map f) keys) ≡ position (option_eq (λ a b. bytes_eq (f a) (f b)) q) keys
  key_place q keys = position_through (option_eq bytes_eq (option_map f q)) (option_map f) keys ∙ ap (λ t. position t keys) (λ t x. key_test q x t)

  pub found_place : (q : Option A) (keys : List (Option A)) (name : Option (List ℕ)) (seen : List (Option (List ℕ))) (r : Option ℕ) → r ≡ position (option_eq (λ a b. bytes_eq (f a) (f b)) q) keys →
      option_map f q ≡ name → map (option_map f) keys ≡ seen → r ≡ position (option_eq bytes_eq name) seen
  found_place q keys name seen r e n s = e ∙ (sym (key_place q keys) ∙ λ t. position (option_eq bytes_eq (n t)) (s t))

  differ_from : (q : Option A) (keys : List (Option A)) → AllByRecursion (λ y. option_eq (λ a b. bytes_eq (f a) (f b)) q y ≡ false) keys →
      AllByRecursion (λ y. option_eq bytes_eq (option_map f q) y ≡ false) (map (option_map f) keys)
  differ_from q [] h = tt
  differ_from q (y ∷ keys) h = (key_test q y ∙ h.0, differ_from q keys h.1)

  pub keys_differ : (keys : List (Option A)) → IsDistinct (option_eq (λ a b. bytes_eq (f a) (f b))) keys → IsDistinct (option_eq bytes_eq) (map (option_map f) keys)
  unfolding IsDistinct
  keys_differ [] d = tt
  keys_differ (k ∷ keys) d = (differ_from k keys d.0, keys_differ keys d.1)

-- the first place at which a test passes
module _ {A : Type 0} (p : A → Bool) where
  pub at_place : (xs : List A) (i : ℕ) → Some i ≡ position p xs → (i ≡ position_or_len p xs) × (i < length xs)
  at_place xs i e = by (nat_lt (position_or_len p xs) (length xs)) refl
    where
      by : (b : Bool) → nat_lt (position_or_len p xs) (length xs) ≡ b → (i ≡ position_or_len p xs) × (i < length xs)
      by true t =
          let k : ◌≡◌ {A = Option ℕ} (Some i) (Some (position_or_len p xs)) = e ∙ ap (λ b. cond b (Some (position_or_len p xs)) None) t in
          let j : i ≡ position_or_len p xs = cc in
          let l : position_or_len p xs < length xs = grind (arith, nat_tests) in
          (j, omega arith)
      by false t =
          let k : ◌≡◌ {A = Option ℕ} (Some i) None = e ∙ ap (λ b. cond b (Some (position_or_len p xs)) None) t in
          absurd (cc)

  pub no_place : (xs : List A) → None ≡ position p xs → length xs ≤ position_or_len p xs
  no_place xs e = by (nat_lt (position_or_len p xs) (length xs)) refl
    where
      by : (b : Bool) → nat_lt (position_or_len p xs) (length xs) ≡ b → length xs ≤ position_or_len p xs
      by true t =
          let k : ◌≡◌ {A = Option ℕ} None (Some (position_or_len p xs)) = e ∙ ap (λ b. cond b (Some (position_or_len p xs)) None) t in
          absurd (cc)
      by false t = grind (arith, nat_tests)

  pub none_passes : (xs : List A) → length xs ≤ position_or_len p xs → list_any p xs ≡ false
  none_passes [] l = refl
  none_passes (x ∷ xs) l = go (p x) refl (λ m. none_passes xs m)
    where
      go : (b : Bool) → p x ≡ b → (length xs ≤ position_or_len p xs → list_any p xs ≡ false) → p x || list_any p xs ≡ false
      go true t ih =
          let z : position_or_len p (x ∷ xs) ≡ 0 = ap (λ b. cond (not b) (1 + position_or_len p xs) 0) t in
          absurd (omega arith)
      go false t ih =
          let z : position_or_len p (x ∷ xs) ≡ 1 + position_or_len p xs = ap (λ b. cond (not b) (1 + position_or_len p xs) 0) t in
          ap (λ b. b || list_any p xs) t ∙ ih (omega arith)

-- a new key goes last
pub key_added : {A : Type 0} (f : A → List ℕ) (k : Option A) (q : Option (List ℕ)) (old new : List (Option A)) → option_map f k ≡ q → None ≡ position (option_eq bytes_eq q) (map (option_map f) old) →
    new ≡ (if list_any (option_eq (λ a b. bytes_eq (f a) (f b)) k) old then old else old ++ k ∷ []) → map (option_map f) new ≡ map (option_map f) old ++ q ∷ []
key_added f k q old new e n put =
    let h : None ≡ position (option_eq (λ a b. bytes_eq (f a) (f b)) k) old = n ∙ (ap (λ z. position (option_eq bytes_eq z) (map (option_map f) old)) (sym e) ∙ key_place f k old) in
    let a = none_passes (option_eq (λ a b. bytes_eq (f a) (f b)) k) old (no_place _ old h) in
    ap (map (option_map f)) (put ∙ ap (λ b. if b then old else old ++ k ∷ []) a) ∙ (map-append (option_map f) old (k ∷ []) ∙ ap (λ z. map (option_map f) old ++ z ∷ []) e)
