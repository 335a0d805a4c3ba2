-- The choice of a production for each seen, expanded module, one module after another.
use Rattle.std.proofs.Common.{◌≡◌, ℕ, ◌+◌, ◌<◌, List, [], ◌∷◌, ◌++◌, length, sym, ap, ◌∙◌, subst, inl, inr, ⊎_elim, arith}
use Rattle.std.proofs.lemmas.List.{map_push}
use Rattle.std.proofs.lemmas.Bool.{cases_eq}
use Rattle.wf_model.specs.Lists.{IsIn, IsAt}
use Rattle.wf_model.specs.Grammar.{Grammar, IsProductionOf}
use Rattle.wf_model.specs.View.{View}
use Rattle.wf_model.specs.WellFormed.{IsWellFormed}
use Rattle.wf_model.specs.Safe.{IsChosen}
use Rattle.wf_model.proofs.Lists.{in_append_left, in_append_right, in_append_cases, at_in, at_below}
use Rattle.wf_model.proofs.Positions.{at_push}
use Rattle.wf_check.specs.Proper.{Ranking, IsRankingOf}
use Rattle.wf_view.specs.Held.{HeldView, IsHeldFor}
use Rattle.wf_safe.specs.declared.witness.Choice.{Choice}
use Rattle.wf_safe.specs.Inducing.{choice_of, IsSeenExpanded}
use Rattle.wf_safe.specs.Witness.{IsChoiceOf, chosen_in, modules_in}
use Rattle.wf_safe.proofs.Falling.{falls}
use Rattle.wf_safe.proofs.SeenBelow.{seen_below}

-- a list has the seen, expanded modules below n, in order, with their chosen productions
pub record AreChosenBelow (g : Grammar) (u : View) (r : Ranking) (n : ℕ) (list : List (ℕ × ℕ)) : Type 0 where
  pub in_order : (j k a b : ℕ) → j < k → IsAt a j (modules_in list) → IsAt b k (modules_in list) → a < b
  pub below : (m : ℕ) → IsIn m (modules_in list) → m < n
  pub all : (m : ℕ) → m < n → IsSeenExpanded g u m → IsIn m (modules_in list)
  pub seen : (m p : ℕ) → IsChosen list m p → IsSeenExpanded g u m
  pub ranked : (m p : ℕ) → IsChosen list m p → p ≡ choice_of r m

pub none_chosen : (g : Grammar) (u : View) (r : Ranking) → AreChosenBelow g u r 0 []
none_chosen g u r = record {
  in_order = λ j k a b l x y. absurd x;
  below = λ m i. absurd i;
  all = λ m l o. absurd (omega arith);
  seen = λ m p i. absurd i;
  ranked = λ m p i. absurd i;
}

pub not_chosen : (g : Grammar) (u : View) (r : Ranking) (n : ℕ) (list : List (ℕ × ℕ)) → AreChosenBelow g u r n list → (IsSeenExpanded g u n → ⊥) → AreChosenBelow g u r (n + 1) list
not_chosen g u r n list b not = record {
  in_order = b.in_order;
  below = λ m i. let l = b.below m i in omega arith;
  all = λ m l o. elim (cases_eq m n) [
    | inl e ↦ absurd (not (subst (IsSeenExpanded g u) e o))
    | inr e ↦ b.all m (omega arith) o
  ];
  seen = b.seen;
  ranked = b.ranked;
}

order_more : (n : ℕ) (ms : List ℕ) → ((j k a b : ℕ) → j < k → IsAt a j ms → IsAt b k ms → a < b) → ((m : ℕ) → IsIn m ms → m < n) → (j k a b : ℕ) → j < k → IsAt a j (ms ++ n ∷ []) → IsAt b k (ms ++ n ∷ []) → a < b
order_more n ms order below j k a b l x y =
    ⊎_elim
    (λ y'. ⊎_elim (λ x'. order j k a b l x' y') (λ (z : (j ≡ length ms) × (a ≡ n)). absurd (let q = at_below b k ms y' in let e = z.0 in omega arith)) (at_push a j ms n x))
    (λ (z : (k ≡ length ms) × (b ≡ n)). ⊎_elim (λ x'. let q = below a (at_in a j ms x') in let e = z.1 in omega arith) (λ (w : (j ≡ length ms) × (a ≡ n)). absurd (let e = z.0 in let f = w.0 in omega arith)) (at_push a j ms n x))
    (at_push b k ms n y)

chosen_more : (g : Grammar) (u : View) (r : Ranking) (n : ℕ) (list : List (ℕ × ℕ)) → AreChosenBelow g u r n list → IsSeenExpanded g u n → AreChosenBelow g u r (n + 1) (list ++ (n, choice_of r n) ∷ [])
chosen_more g u r n list b known =
    let e = map_push (λ (c : ℕ × ℕ). c.0) list (n, choice_of r n) in
    record {
      in_order = λ j k a b' l x y. order_more n (modules_in list) b.in_order b.below j k a b' l (subst (IsAt a j) e x) (subst (IsAt b' k) e y);
      below = λ m i. ⊎_elim (λ h. let l = b.below m h in omega arith) (λ h. ⊎_elim (λ (q : m ≡ n). omega arith) (λ z. absurd z) h) (in_append_cases m (modules_in list) (n ∷ []) (subst (IsIn m) e i));
      all = λ m l o. subst (IsIn m) (sym e) (elim (cases_eq m n) [
        | inl q ↦ in_append_right m (modules_in list) (n ∷ []) (inl q)
        | inr q ↦ in_append_left m (modules_in list) (n ∷ []) (b.all m (omega arith) o)
      ]);
      seen = λ m p i. ⊎_elim (λ h. b.seen m p h) (λ h. ⊎_elim (λ (q : (m, p) ≡ (n, choice_of r n)). subst (IsSeenExpanded g u) (sym (ap (λ (z : ℕ × ℕ). z.0) q)) known) (λ z. absurd z) h) (in_append_cases (m, p) list ((n, choice_of r n) ∷ []) i);
      ranked = λ m p i. ⊎_elim (λ h. b.ranked m p h)
          (λ h. ⊎_elim (λ (q : (m, p) ≡ (n, choice_of r n)). ap (λ (z : ℕ × ℕ). z.1) q ∙ ap (choice_of r) (sym (ap (λ (z : ℕ × ℕ). z.0) q))) (λ z. absurd z) h) (in_append_cases (m, p) list ((n, choice_of r n) ∷ []) i);
    }

-- the next seen, expanded module
pub next_chosen : (g : Grammar) (u : View) (r : Ranking) (n : ℕ) (list : List Choice) (c : Choice) → AreChosenBelow g u r n (chosen_in list) → IsSeenExpanded g u n → c.«module».0 ≡ n → c.production.0 ≡ choice_of r n → AreChosenBelow g u r (n + 1) (chosen_in (list ++ c ∷ []))
next_chosen g u r n list c b o e f =
    subst (AreChosenBelow g u r (n + 1)) (sym (map_push (λ (z : Choice). (z.«module».0, z.production.0)) list c ∙ (ap (λ m. chosen_in list ++ (m, c.production.0) ∷ []) e ∙ ap (λ p. chosen_in list ++ (n, p) ∷ []) f)))
    (chosen_more g u r n (chosen_in list) b o)

-- the list of all seen, expanded modules is a choice
pub choice_made : (g : Grammar) (v : HeldView) (r : Ranking) (list : List (ℕ × ℕ)) → IsWellFormed g → IsRankingOf g r → IsHeldFor g v → AreChosenBelow g v.core r (length g.modules) list → IsChoiceOf g v.core list
choice_made g v r list wf h held b = record {
  in_order = b.in_order;
  all = λ m seen x. b.all m (seen_below g v.core m wf seen) (seen, x);
  seen = b.seen;
  productions = λ m p i. subst (λ q. IsProductionOf g q m) (sym (b.ranked m p i)) (falls g r m wf h (held.is_view.expanded m (b.seen m p i).1)).of_module;
}
