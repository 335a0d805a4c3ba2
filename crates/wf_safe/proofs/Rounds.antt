-- Choices that are tried one after another.
use Rattle.std.proofs.Common.{◌≡◌, ℕ, ◌<◌, ◌⊎◌, ◌||◌, Bool, true, false, List, [], Option, length, refl, sym, subst, ⊎_elim, arith, true≢false}
use Rattle.wf_model.specs.Lists.{here}
use Rattle.wf_model.specs.Grammar.{Grammar, IsProductionOf}
use Rattle.wf_model.specs.WellFormed.{IsWellFormed}
use Rattle.wf_model.specs.Safe.{IsChosen}
use Rattle.wf_model.proofs.Walks.{walk-append, walk_one}
use Rattle.wf_safe.specs.Settling.{IsTable, Settles, AddsNothing, IsTried, AreTried, unset}
use Rattle.wf_safe.proofs.Tables.{place_there, fewer_unset}

module _ (g : Grammar) (choice : List (ℕ × ℕ)) (before : List (Option (List ℕ))) where
  pub none_tried : AreTried g choice [] before false before
  none_tried = record { steps = here; fewer = λ e. absurd (true≢false (sym e)); same = λ e. refl; nothing = λ e m p i. absurd i }

  module _ (tried more : List (ℕ × ℕ)) (some : Bool) (now : List (Option (List ℕ))) (h : AreTried g choice tried before some now) (m p : ℕ) (chosen : IsChosen choice m p)
      (cases : (k q : ℕ) → IsChosen more k q → IsChosen tried k q ⊎ ((k ≡ m) × (q ≡ p))) (after : List (Option (List ℕ))) where
    -- the next choice settles its module
    also_settled : m < length now → Settles g m p now after → AreTried g choice more before true after
    also_settled low s = record {
      steps = walk-append h.steps (walk_one (m, p, chosen, s));
      fewer = λ e. fewer_after some refl;
      same = λ e. absurd (true≢false e);
      nothing = λ e. absurd (true≢false e);
    }
      where
        less : unset after < unset now
        less = subst (λ l. unset l < unset now) (sym s.written) (fewer_unset now m s.rows low s.unset)

        fewer_after : (b : Bool) → some ≡ b → unset after < unset before
        fewer_after true e = let a = h.fewer e in omega (arith, less)
        fewer_after false e = subst (λ l. unset after < unset l) (h.same e) less

    -- the next choice adds nothing
    also_tried : after ≡ now → AddsNothing g now m p → AreTried g choice more before some after
    also_tried same none = subst (AreTried g choice more before some) (sym same) (record {
      steps = h.steps;
      fewer = h.fewer;
      same = h.same;
      nothing = λ e k q i. ⊎_elim (λ a. h.nothing e k q a)
          (λ (a : (k ≡ m) × (q ≡ p)). subst (λ z. AddsNothing g before z q) (sym a.0) (subst (λ z. AddsNothing g before m z) (sym a.1) (subst (λ l. AddsNothing g l m p) (h.same e) none)))
          (cases k q i);
    })

    pub tried_more : IsWellFormed g → IsTable g now → IsProductionOf g p m → (b : Bool) → IsTried g m p now b after → AreTried g choice more before (some || b) after
    tried_more wf t of true r = subst (λ b. AreTried g choice more before b after) (sym (or_true some)) (also_settled (place_there g now m p wf t of) (r.settles refl))
      where
        or_true : (b : Bool) → b || true ≡ true
        or_true true = refl
        or_true false = refl
    tried_more wf t of false r = subst (λ b. AreTried g choice more before b after) (sym (or_false some)) (also_tried (r.same refl) (r.nothing refl))
      where
        or_false : (b : Bool) → b || false ≡ b
        or_false true = refl
        or_false false = refl
