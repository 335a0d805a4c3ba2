-- The names of children, which are numbered one after another, beside names that are wanted.
use Rattle.std.proofs.Common.{◌≡◌, ℕ, zero, suc, ◌<◌, ◌≤◌, ◌+◌, ◌-◌, ◌==◌, ◌&&◌, Bool, true, false, not, List, [], ◌∷◌, length, take, drop, get_or}
use Rattle.std.proofs.Common.{bytes_eq, refl, sym, ap, ◌∙◌, arith}
use Rattle.std.specs.Cmp.Lexicographic.{pointwise}
use Rattle.std.proofs.Math.Seq.{take-length}
use Rattle.std.proofs.lemmas.Bool.{ne_eqb, not-true, not-false}
use Rattle.wf_model.specs.Lists.{numbers_from}
use Rattle.wf_run.specs.Runs.{RunSeen, name_at, names_at}

module _ (r : RunSeen) where
  -- so many instances, from one on, have these names, one for each
  abbrev agree : ℕ → ℕ → List (List ℕ) → Bool
  agree k n names = pointwise bytes_eq (names_at r (numbers_from k n)) names

  pub agree_at_end : (k n : ℕ) (names : List (List ℕ)) → length names < 1 → (n == 0) ≡ agree k n names
  agree_at_end k zero [] h = refl
  agree_at_end k (suc n) [] h = ne_eqb (suc n) 0 (λ e. absurd (omega arith))
  agree_at_end k n (x ∷ names) h = absurd (omega arith)

  -- the names behind the first
  abbrev others : List (List ℕ) → List (List ℕ)
  others names = take (length names - 1) (drop 1 names)

  agree_by_first : (k n : ℕ) (names : List (List ℕ)) (wanted : List ℕ) → (n ≡ 0 → ⊥) → 1 ≤ length names → wanted ≡ get_or names 0 wanted →
      agree k n names ≡ bytes_eq (name_at r k) wanted && agree (k + 1) (n - 1) (others names)
  agree_by_first k zero names wanted some h first = absurd (some refl)
  agree_by_first k (suc n) [] wanted some h first = absurd (omega arith)
  agree_by_first k (suc n) (x ∷ names) wanted some h first =
      let next : suc k ≡ k + 1 = omega arith in
      let fewer : n ≡ suc n - 1 = omega arith in
      let rest : length names ≡ suc (length names) - 1 = omega arith in
      ap (λ y. bytes_eq (name_at r k) y && agree (suc k) n names) (sym first)
      ∙ (ap (λ i. bytes_eq (name_at r k) wanted && agree i n names) next
      ∙ (ap (λ i. bytes_eq (name_at r k) wanted && agree (k + 1) i names) fewer
      ∙ ap (λ l. bytes_eq (name_at r k) wanted && agree (k + 1) (suc n - 1) l) (sym (take-length names) ∙ ap (λ i. take i names) rest)))

  module _ (k n : ℕ) (names : List (List ℕ)) (wanted : List ℕ) (some : n ≡ 0 → ⊥) (h : 1 ≤ length names) (first : wanted ≡ get_or names 0 wanted)
      (has given : List ℕ) (its : has ≡ name_at r k) (same : given ≡ wanted) where
    test : bytes_eq has given ≡ bytes_eq (name_at r k) wanted
    test = ap (λ x. bytes_eq x given) its ∙ ap (bytes_eq (name_at r k)) same

    -- the first has another name
    pub first_differs : not (bytes_eq has given) ≡ true → agree k n names ≡ false
    first_differs e = agree_by_first k n names wanted some h first ∙ ap (λ b. b && agree (k + 1) (n - 1) (others names)) (sym test ∙ not-true _ e)

    -- it has this one, and the others decide
    pub first_agrees : not (bytes_eq has given) ≡ false → agree k n names ≡ agree (k + 1) (n - 1) (others names)
    first_agrees e = agree_by_first k n names wanted some h first ∙ ap (λ b. b && agree (k + 1) (n - 1) (others names)) (sym test ∙ not-false _ e)
