-- A table of the pairs that a view shows, with one module more.
use Rattle.std.proofs.Common.{◌≡◌, ℕ, ◌+◌, ◌<◌, Bool, true, false, cond, List, [], Option, Some, None, replicate, length, length-set, get_or, set, refl, sym, ap, ◌∙◌, subst, ⊎_elim, inl, inr, arith}
use Rattle.std.proofs.lemmas.Bool.{cases_eq, cases_lt}
use Rattle.std.proofs.lemmas.List.{get_or-set_same, get_or-set_other, get_or-replicate, get_or_past, length-replicate}
use Rattle.wf_model.specs.Grammar.{Grammar}
use Rattle.wf_model.specs.View.{expands}
use Rattle.wf_view.specs.Held.{HeldView}
use Rattle.wf_view.specs.ShownTable.{AreOnlyShownBelow}

none_at : (n m : ℕ) → get_or (replicate {A = Option (List ℕ)} n None) m None ≡ None
none_at n m = elim (cases_lt m n) [
  | inl l ↦ get_or-replicate n m None None l
  | inr l ↦ get_or_past (replicate n None) m None (let e : length (replicate {A = Option (List ℕ)} n None) ≡ n = length-replicate n None in omega (arith, e))
]

-- where no rows are set, there are none
pub none_shown : (g : Grammar) (v : HeldView) (n : ℕ) → n ≡ length g.modules → AreOnlyShownBelow g v 0 (replicate n None)
none_shown g v n e = record {
  each = length-replicate n None ∙ e;
  below = λ m l. absurd (omega arith);
  none = λ m l. none_at n m;
}

module _ (g : Grammar) (v : HeldView) (m : ℕ) (low : m < length g.modules) (old : List (Option (List ℕ))) (so_far : AreOnlyShownBelow g v m old) where
  -- a module that the view expands gets no rows
  not_shown : expands v.core m ≡ true → AreOnlyShownBelow g v (m + 1) old
  not_shown ex = record {
    each = so_far.each;
    below = λ k l. ⊎_elim
        (λ (s : k ≡ m). so_far.none k (let q : k ≡ m = s in omega arith) ∙ sym (ap (λ b. cond b None (Some (get_or v.rows k []))) (ap (expands v.core) s ∙ ex)))
        (λ n. so_far.below k (let d : k ≡ m → ⊥ = n in omega arith))
        (cases_eq k m);
    none = λ k l. so_far.none k (omega arith);
  }

  -- any other gets those that the view shows
  also_shown : expands v.core m ≡ false → AreOnlyShownBelow g v (m + 1) (set old m (Some (get_or v.rows m [])))
  also_shown ex = record {
    each = length-set old m (Some (get_or v.rows m [])) ∙ so_far.each;
    below = λ k l. ⊎_elim
        (λ (s : k ≡ m). here k s ∙ (ap (λ z. Some (get_or v.rows z [])) (sym s) ∙ sym (ap (λ b. cond b None (Some (get_or v.rows k []))) (ap (expands v.core) s ∙ ex))))
        (λ n. there k n ∙ so_far.below k (let d : k ≡ m → ⊥ = n in omega arith))
        (cases_eq k m);
    none = λ k l. let n : k ≡ m → ⊥ = λ (s : k ≡ m). omega arith in there k n ∙ so_far.none k (omega arith);
  }
    where
      here : (k : ℕ) → k ≡ m → get_or (set old m (Some (get_or v.rows m []))) k None ≡ Some (get_or v.rows m [])
      here k s = ap (λ z. get_or (set old m (Some (get_or v.rows m []))) z None) s ∙ get_or-set_same old m (Some (get_or v.rows m [])) None (let e = so_far.each in omega arith)

      there : (k : ℕ) → (k ≡ m → ⊥) → get_or (set old m (Some (get_or v.rows m []))) k None ≡ get_or old k None
      there k n = get_or-set_other old m k (Some (get_or v.rows m [])) None n

  pub shown_more : (new : List (Option (List ℕ))) → new ≡ cond (expands v.core m) old (set old m (Some (get_or v.rows m []))) → AreOnlyShownBelow g v (m + 1) new
  shown_more new e = go (expands v.core m) refl
    where
      go : (b : Bool) → expands v.core m ≡ b → AreOnlyShownBelow g v (m + 1) new
      go true ex = subst (AreOnlyShownBelow g v (m + 1)) (sym (e ∙ ap (λ b. cond b old (set old m (Some (get_or v.rows m [])))) ex)) (not_shown ex)
      go false ex = subst (AreOnlyShownBelow g v (m + 1)) (sym (e ∙ ap (λ b. cond b old (set old m (Some (get_or v.rows m [])))) ex)) (also_shown ex)
