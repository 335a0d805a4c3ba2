-- Names that stand a second time in a list.
use Rattle.std.proofs.Common.{◌≡◌, ℕ, ◌+◌, ◌<◌, true, false, List, [], ◌∷◌, ◌++◌, map, take, length, get_or, sym, ◌∙◌, subst}
use Rattle.std.proofs.lemmas.List.{map-id}
use Rattle.wf_model.specs.Faults.{is_one_of}
use Rattle.wf_spec.specs.Naming.{IsNewAt}
use Rattle.wf_spec.specs.FirstFaults.{FailsFirstAt}
use Rattle.wf_spec.proofs.NewNames

module _ (names : List (List ℕ)) (k : ℕ) (one : List ℕ) (was : one ≡ get_or names k one) (inside : k < length names) (taken : List (List ℕ)) (name : List ℕ) (is : taken ≡ take k names) (same : name ≡ one) (before : (j : ℕ) → j < k → IsNewAt names j) where
  before' : (j : ℕ) → j < k → IsNewAt (map (λ n. n) names) j
  before' j below = subst (λ l. IsNewAt l j) (sym (map-id names)) (before j below)

  -- the first name that is one of those before it
  pub first_again : is_one_of taken name ≡ true → FailsFirstAt (length names) (IsNewAt names) k
  first_again held =
      subst (λ l. FailsFirstAt (length names) (IsNewAt l) k) (map-id names)
      (NewNames.first_not_new (λ n. n) names k one was inside taken name (is ∙ sym (map-id (take k names))) same held before')

  -- one name more that is new
  pub still_new : is_one_of taken name ≡ false → (j : ℕ) → j < k + 1 → IsNewAt names j
  still_new absent =
      subst (λ l. (j : ℕ) → j < k + 1 → IsNewAt l j) (map-id names)
      (NewNames.new_more (λ n. n) names k one was inside taken name (is ∙ sym (map-id (take k names))) same absent before')

  pub more_taken : (longer : List (List ℕ)) → longer ≡ taken ++ name ∷ [] → longer ≡ take (k + 1) names
  more_taken longer more =
      NewNames.names_more (λ n. n) names k one was inside taken longer name (is ∙ sym (map-id (take k names))) same more ∙ map-id (take (k + 1) names)
