-- The modules for which a production is to be chosen, in order.
use Rattle.std.proofs.Common.{◌≡◌, ◌≢◌, ◌↔◌, ℕ, zero, suc, ◌+◌, ◌<◌, ◌==◌, Bool, false, IsTrue, List, [], ◌∷◌, ◌++◌, length, sym, ap, ◌∙◌, arith, append_assoc, append-nil, true≢false}
use Rattle.std.specs.List.{filter}
use Rattle.std.proofs.lemmas.List.{append_cancel_left}
use Rattle.std.proofs.lemmas.List.Elements.{filter-append}
use Rattle.std.proofs.lemmas.Bool.Decides.{nat_tests}
use Rattle.wf_model.specs.Lists.{numbers_from}
use Rattle.wf_model.proofs.NumberLists.{numbers_from-last}
use Rattle.wf_view.specs.Held.{HeldView}
use Rattle.wf_safe.specs.declared.witness.Choice.{Choice}
use Rattle.wf_safe.specs.Choosing.{is_seen_expanded, needing_below}
use Rattle.wf_safe.specs.Witness.{chosen_in, modules_in}

-- a number among those from k on, with what stands before it and after it
numbers_around : (k m n : ℕ) → m < n → (after : List ℕ) × (numbers_from k n ≡ numbers_from k m ++ (k + m) ∷ after)
numbers_around k m zero h = absurd (omega arith)
numbers_around k zero (suc n) h = let e : k ≡ k + 0 = omega arith in (numbers_from (suc k) n, ap (λ z. z ∷ numbers_from (suc k) n) e)
numbers_around k (suc m) (suc n) h =
    let r = numbers_around (suc k) m n (omega arith) in
    let e : suc k + m ≡ k + suc m = omega arith in
    (r.0, ap (λ l. k ∷ l) r.1 ∙ ap (λ z. k ∷ numbers_from (suc k) m ++ z ∷ r.0) e)

module _ (v : HeldView) where
  pub needing_around : (m n : ℕ) → m < n → (after : List ℕ) × (needing_below v n ≡ needing_below v m ++ (filter (is_seen_expanded v) (m ∷ []) ++ after))
  needing_around m n h =
      let r = numbers_around 0 m n h in
      let e : 0 + m ≡ m = omega arith in
      let same : numbers_from 0 n ≡ numbers_from 0 m ++ (m ∷ [] ++ r.0) = r.1 ∙ ap (λ z. numbers_from 0 m ++ z ∷ r.0) e in (
        filter (is_seen_expanded v) r.0,
        ap (filter (is_seen_expanded v)) same ∙ (filter-append (is_seen_expanded v) (numbers_from 0 m) (m ∷ [] ++ r.0) ∙
            ap (λ l. needing_below v m ++ l) (filter-append (is_seen_expanded v) (m ∷ []) r.0)),
      )

  pub needing_more : (m : ℕ) → needing_below v (m + 1) ≡ needing_below v m ++ filter (is_seen_expanded v) (m ∷ [])
  needing_more m =
      let e : m + 1 ≡ suc m = omega arith in
      let z : 0 + m ≡ m = omega arith in
      ap (needing_below v) e ∙ (ap (filter (is_seen_expanded v)) (numbers_from-last 0 m ∙ ap (λ n. numbers_from 0 m ++ n ∷ []) z) ∙ filter-append (is_seen_expanded v) (numbers_from 0 m) (m ∷ []))

  -- the choice for the next module is not there, so the modules are not those that need one
  pub none_next : (ms left : List ℕ) (m n : ℕ) → m < n → ms ≡ needing_below v m ++ left → ((after : List ℕ) → left ≡ filter (is_seen_expanded v) (m ∷ []) ++ after → ⊥) → ms ≢ needing_below v n
  none_next ms left m n h inv none e =
      let r = needing_around m n h in
      none r.0 (append_cancel_left (needing_below v m) left (filter (is_seen_expanded v) (m ∷ []) ++ r.0) (sym inv ∙ (e ∙ r.1)))

  -- it is there
  pub some_next : (ms left rest : List ℕ) (m : ℕ) → ms ≡ needing_below v m ++ left → left ≡ filter (is_seen_expanded v) (m ∷ []) ++ rest → ms ≡ needing_below v (m + 1) ++ rest
  some_next ms left rest m inv e =
      inv ∙ (ap (λ l. needing_below v m ++ l) e ∙ (sym (append_assoc (needing_below v m) (filter (is_seen_expanded v) (m ∷ [])) rest) ∙ ap (λ l. l ++ rest) (sym (needing_more m))))

  -- all have been gone through
  pub none_left : (ms : List ℕ) (left : List Choice) (m n : ℕ) (b : Bool) → m ≡ n → b ≡ (length left == 0) → ms ≡ needing_below v m ++ modules_in (chosen_in left) → IsTrue b ↔ (ms ≡ needing_below v n)
  none_left ms [] m n b e is inv = (λ t. inv ∙ (append-nil (needing_below v m) ∙ ap (needing_below v) e), λ q. is)
  none_left ms (c ∷ left) m n b e is inv = (
    λ t. absurd (true≢false (sym t ∙ (is ∙ not_none (suc (length left)) (omega arith)))),
    λ q. absurd (longer (append_cancel_left (needing_below v m) (modules_in (chosen_in (c ∷ left))) [] (sym inv ∙ (q ∙ (ap (needing_below v) (sym e) ∙ sym (append-nil (needing_below v m))))))),
  )
    where
      not_none : (k : ℕ) → 0 < k → (k == 0) ≡ false
      not_none k h = grind (arith, nat_tests)

      longer : modules_in (chosen_in (c ∷ left)) ≡ [] → ⊥
      longer h = cc
