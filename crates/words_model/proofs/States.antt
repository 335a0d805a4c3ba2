-- The numbers of states, and lists in which each element stands once for each state.
use Rattle.std.proofs.Common.{◌≡◌, ◌↔◌, ℕ, ◌+◌, ◌*◌, ◌<◌, List, [], ◌∷◌, map, flat_map, length, sym, ◌∙◌, arith, length-append}
use Rattle.std.proofs.Math.Nat.{suc-mul, zero-mul}
use Rattle.std.proofs.lemmas.List.{length-map}
use Rattle.wf_model.specs.Lists.{IsIn, numbers_from}
use Rattle.wf_model.proofs.Lists.{in_map, in_map_from, in_flat_map, in_flat_map_from}
use Rattle.wf_model.proofs.Level.{in_numbers, numbers_in}
use Rattle.wf_model.proofs.NumberLists.{length-numbers}

-- the states are the numbers below k
pub are_states : (k s : ℕ) → IsIn s (numbers_from 0 k) ↔ (s < k)
are_states k s = ((λ h. let b : s < 0 + k = in_numbers s 0 k h in omega arith), (λ h. numbers_in s 0 k (omega arith) (omega arith)))

module _ {A B : Type 0} (f : ℕ → A → B) (k : ℕ) where
  -- each element, once for each state
  abbrev pub states_of : A → List B
  states_of x = map (λ s. f s x) (numbers_from 0 k)

  pub in_states : (x : A) (s : ℕ) (xs : List A) → s < k → IsIn x xs → IsIn (f s x) (flat_map states_of xs)
  in_states x s xs hs h = in_flat_map states_of x (f s x) xs h (in_map (λ s. f s x) s (numbers_from 0 k) ((are_states k s).1 hs))

  pub in_states_from : (y : B) (xs : List A) → IsIn y (flat_map states_of xs) → (x : A) × (s : ℕ) × (s < k) × IsIn x xs × (y ≡ f s x)
  in_states_from y xs h =
      let r = in_flat_map_from states_of y xs h in
      let t = in_map_from (λ s. f s r.0) y (numbers_from 0 k) r.2 in
      (r.0, t.0, (are_states k t.0).0 t.1, r.1, t.2)

  pub length-states_of : (x : A) → length (states_of x) ≡ k
  length-states_of x = length-map (numbers_from 0 k) (λ s. f s x) ∙ length-numbers 0 k

  pub length-states : (xs : List A) → length (flat_map states_of xs) ≡ length xs * k
  length-states [] = sym (zero-mul k)
  length-states (x ∷ xs) =
      let a = length-append (states_of x) (flat_map states_of xs) in
      let b = length-states_of x in
      let c = length-states xs in
      let d = suc-mul (length xs) k in
      omega arith
