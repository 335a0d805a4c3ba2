-- Tables of rows stay right while choices settle their modules, one after another.
use Rattle.std.proofs.Common.{◌≡◌, ◌↔◌, ℕ, ◌<◌, Bool, false, IsTrue, List, Option, None, Some, length, get_or, is_some, sym, ap, ◌∙◌, subst, ⊎_elim, true≢false}
use Rattle.std.proofs.lemmas.Bool.{cases_eq}
use Rattle.wf_model.specs.Lists.{Walk, here, onward}
use Rattle.wf_model.specs.Grammar.{Grammar}
use Rattle.wf_model.specs.WellFormed.{IsWellFormed}
use Rattle.wf_model.specs.View.{View}
use Rattle.wf_model.specs.Meaning.{bit_of, pairs_of}
use Rattle.wf_model.specs.Safe.{BodyJoins, IsChosen}
use Rattle.wf_laws.specs.Settled.{IsSettled}
use Rattle.wf_laws.proofs.Making.{settled_from}
use Rattle.bool_mat.specs.Matrix.{has}
use Rattle.wf_safe.specs.Settling.{is_set, AreSet, IsTable, Settles, SettlesOne, AreTried, AreJoined, AreRowsByChoice, AreAllRowsByChoice}
use Rattle.wf_safe.specs.Witness.{IsChoiceOf}
use Rattle.wf_model.proofs.Rising.{one_second}
use Rattle.wf_safe.proofs.Tables.{has_is, place_there, pairs_same, set_here, set_there, table_more, joins_same}

module _ (g : Grammar) (u : View) (choice : List (ℕ × ℕ)) (ch : IsChoiceOf g u choice) where
  module _ (wf : IsWellFormed g) (before : List (Option (List ℕ))) (right : AreRowsByChoice g u choice before) (m p : ℕ) (chosen : IsChosen choice m p) (after : List (Option (List ℕ))) (s : Settles g m p before after) where
    low : m < length before
    low = place_there g before m p wf right.table (ch.productions m p chosen)

    here_set : get_or after m None ≡ Some s.rows
    here_set = ap (λ l. get_or l m None) s.written ∙ set_here g before m s.rows low

    other : (k : ℕ) → (k ≡ m → ⊥) → get_or after k None ≡ get_or before k None
    other k n = ap (λ l. get_or l k None) s.written ∙ set_there g before m s.rows low k n

    -- what had rows keeps them
    kept : (k : ℕ) → IsTrue (is_set before k) → get_or after k None ≡ get_or before k None
    kept k h = other k (λ e. true≢false (sym h ∙ (ap (is_set before) e ∙ s.unset)))

    still_set : (q : ℕ) → AreSet g q before → AreSet g q after
    still_set q h k i = ap (λ (z : Option (List ℕ)). is_some z) (kept k (h k i)) ∙ h k i

    joins_still : (q i o : ℕ) → AreSet g q before → BodyJoins g (pairs_of after) q i o ↔ BodyJoins g (pairs_of before) q i o
    joins_still q i o h = joins_same g before after q i o (λ k a. kept k (h k a))

    was_set : (k : ℕ) → (k ≡ m → ⊥) → IsTrue (is_set after k) → IsTrue (is_set before k)
    was_set k n h = ap (λ (z : Option (List ℕ)). is_some z) (sym (other k n)) ∙ h

    joined_here : AreJoined g after m p
    joined_here i o hi ho =
        let a = s.joined.pairs i o hi ho in
        let j = joins_still p i o s.ready in
        let e : pairs_of after m i o ≡ has (get_or s.rows i 0) o = ap (λ (z : Option (List ℕ)). bit_of z i o) here_set ∙ sym (has_is s.rows i o) in
        (λ t. j.1 (a.0 (sym e ∙ t)), λ w. e ∙ a.1 (j.0 w))

    joined_there : (k q : ℕ) → IsTrue (is_set before k) → AreSet g q before → AreJoined g before k q → AreJoined g after k q
    joined_there k q h b a i o hi ho =
        let r = a i o hi ho in
        let j = joins_still q i o b in
        let e = pairs_same before after k (kept k h) i o in
        (λ t. j.1 (r.0 (sym e ∙ t)), λ w. e ∙ r.1 (j.0 w))

    right_after : AreRowsByChoice g u choice after
    right_after = record {
      table = subst (IsTable g) (sym s.written) (table_more g before m s.rows low right.table s.joined.one_each s.joined.no_more);
      shown = λ k h ex. (let r = right.shown k h ex in
          (ap (λ (z : Option (List ℕ)). is_some z) (kept k r.0) ∙ r.0, λ i o hi ho. pairs_same before after k (kept k r.0) i o ∙ r.1 i o hi ho));
      settled = λ k h. ⊎_elim
          (λ (e : k ≡ m). subst (IsSettled g u (IsChosen choice)) (sym e) (settled_from g u (IsChosen choice) m p chosen (ch.productions m p chosen) (λ j i. right.settled j (s.ready j i))))
          (λ n. right.settled k (was_set k n h))
          (cases_eq k m);
      bodies = λ k q c h. ⊎_elim
          (λ (e : k ≡ m).
          let one : q ≡ p = one_second choice ch.in_order m q p (subst (λ z. IsChosen choice z q) e c) chosen in
          subst (λ z. AreSet g q after × AreJoined g after z q) (sym e) (subst (λ z. AreSet g z after × AreJoined g after m z) (sym one) (still_set p s.ready, joined_here)))
          (λ n. let w = was_set k n h in
          let b = right.bodies k q c w in
          (still_set q b.0, joined_there k q w b.0 b.1))
          (cases_eq k m);
    }

  -- so it stays along further choices
  pub right_along : IsWellFormed g → {before after : List (Option (List ℕ))} → Walk (SettlesOne g choice) before after → AreRowsByChoice g u choice before → AreRowsByChoice g u choice after
  right_along wf here right = right
  right_along wf (onward {x = x} {y = y} s w) right = right_along wf w (right_after wf x right s.0 s.1 s.2 y s.3)

  -- and where a round settles nothing, all is settled
  pub all_settled : (before after : List (Option (List ℕ))) (settled : Bool) → AreRowsByChoice g u choice before → AreTried g choice choice before settled after → settled ≡ false → AreAllRowsByChoice g u choice after
  all_settled before after settled right t e = subst (AreAllRowsByChoice g u choice) (sym (t.same e)) (record { right = right; all = t.nothing e })
