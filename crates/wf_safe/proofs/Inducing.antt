-- Rows are found in order of rank: what is known before a module is tried, and after.
use Rattle.std.proofs.Common.{◌≡◌, ◌≢◌, ◌⊎◌, ◌↔◌, ℕ, ◌+◌, ◌<◌, ◌≤◌, true, false, IsTrue, List, length, set, length-set, Option, Some, refl, sym, ap, ◌∙◌, subst, inl, inr, ⊎_elim, arith, true≢false}
use Rattle.std.proofs.lemmas.Bool.{cases_lt, cases_eq}
use Rattle.std.proofs.lemmas.List.{get_or_past}
use Rattle.wf_model.specs.Lists.{IsIn}
use Rattle.wf_model.specs.Grammar.{Grammar, inputs_of, outputs_of, head_of, body_of}
use Rattle.wf_model.specs.View.{View, expands, IsSeenModule, in_body}
use Rattle.wf_model.specs.Meaning.{pairs_of}
use Rattle.wf_model.specs.WellFormed.{IsWellFormed}
use Rattle.wf_model.specs.Safe.{BodyJoins}
use Rattle.wf_body.specs.Matrices.{HasRows, HaveRows}
use Rattle.wf_check.specs.Proper.{Ranking, IsRankingOf}
use Rattle.wf_view.specs.Held.{HeldView, IsHeldFor}
use Rattle.wf_safe.specs.Inducing.{rank_of, choice_of, IsSeenExpanded, HasInduced, AreShownBelow, AreInducedBefore, AreInduced, GetsInduced}
use Rattle.wf_safe.specs.Witness.{ComesBefore}
use Rattle.wf_safe.proofs.Falling.{falls}
use Rattle.wf_safe.proofs.SameBodies.{body_joins_same}
use Rattle.wf_safe.proofs.SeenBelow.{seen_below}
use Rattle.wf_safe.proofs.SetRows.{fit_set, pairs_stay, rows_stay, shown_stays, matrix_set}

-- the modules of the chosen body of a seen, expanded module are seen
chosen_seen : (g : Grammar) (u : View) (p m k : ℕ) → p < length g.productions → head_of g p ≡ m → IsSeenExpanded g u m → IsIn k (body_of g p) → IsSeenModule g u k
chosen_seen g u p m k hp e o i = in_body p hp (subst (IsSeenModule g u) (sym e) o.0) (ap (expands u) e ∙ o.1) i

-- before the first rank there is no seen, expanded module
pub none_before : (g : Grammar) (v : HeldView) (r : Ranking) (rows : List (Option (List ℕ))) → IsWellFormed g → IsRankingOf g r → IsHeldFor g v → AreShownBelow g v.core (length g.modules) rows → AreInducedBefore g v.core r 1 0 rows
none_before g v r rows wf h held s = record {
  one_each = s.one_each;
  fit = s.fit;
  shown = λ m seen e. s.shown m (seen_below g v.core m wf seen) seen e;
  induced = λ m o b. let f = falls g r m wf h (held.is_view.expanded m o.1) in
      let p = f.positive in
      absurd (⊎_elim (λ (l : rank_of r m < 1). absurd (omega arith)) (λ (l : (rank_of r m ≡ 1) × (m < 0)). let q = l.1 in absurd (omega arith)) b);
}

-- after a module of the rank that is not tried, or is of another rank, all is as before
before_cases : (a m n k : ℕ) → ComesBefore a m n (k + 1) → ComesBefore a m n k ⊎ ((a ≡ n) × (m ≡ k))
before_cases a m n k (inl l) = inl (inl l)
before_cases a m n k (inr b) =
    elim (cases_eq m k) [
      | inl e ↦ inr (b.0, e)
      | inr e ↦ let l = b.1 in inl (inr (b.0, omega arith))
    ]

pub passed_by : (g : Grammar) (u : View) (r : Ranking) (n k : ℕ) (rows : List (Option (List ℕ))) → AreInducedBefore g u r n k rows → (IsSeenExpanded g u k → rank_of r k ≡ n → ⊥) → AreInducedBefore g u r n (k + 1) rows
passed_by g u r n k rows b not = record {
  one_each = b.one_each;
  fit = b.fit;
  shown = b.shown;
  induced = λ m o c. ⊎_elim (λ d. b.induced m o d)
      (λ (d : (rank_of r m ≡ n) × (m ≡ k)). absurd (not (subst (IsSeenExpanded g u) d.1 o) (ap (rank_of r) (sym d.1) ∙ d.0)))
      (before_cases (rank_of r m) m n k c);
}

-- the modules of the chosen body of the module that is tried have rows
pub body_has_rows : (g : Grammar) (v : HeldView) (r : Ranking) (n k : ℕ) (rows : List (Option (List ℕ))) → IsWellFormed g → IsRankingOf g r → IsHeldFor g v → AreInducedBefore g v.core r n k rows → IsSeenExpanded g v.core k → rank_of r k ≡ n → HaveRows g (choice_of r k) rows
body_has_rows g v r n k rows wf h held b o e m i =
    let f = falls g r k wf h (held.is_view.expanded k o.1) in
    let seen = chosen_seen g v.core (choice_of r k) k m f.of_module.0 f.of_module.1 o i in
    let lower = f.lower m i in
    go seen (omega arith) (expands v.core m) refl
  where
    go : IsSeenModule g v.core m → rank_of r m < n → (t : _) → expands v.core m ≡ t → HasRows g rows m
    go seen l true x = (b.induced m (seen, x) (inl l)).held
    go seen l false x = (b.shown m seen x).held

-- the rows of a module of no lower rank change nothing of what is known of the chosen body of an earlier one
joins_stay : (g : Grammar) (v : HeldView) (r : Ranking) (rows : List (Option (List ℕ))) (x : Option (List ℕ)) (k m : ℕ) → IsWellFormed g → IsRankingOf g r → IsHeldFor g v → IsSeenExpanded g v.core m → rank_of r m ≤ rank_of r k → (i o : ℕ) →
    BodyJoins g (pairs_of rows) (choice_of r m) i o ↔ BodyJoins g (pairs_of (set rows k x)) (choice_of r m) i o
joins_stay g v r rows x k m wf h held o l i j = (
  body_joins_same g (pairs_of rows) (pairs_of (set rows k x)) (choice_of r m) i j (λ z q a b ha hb. sym (pairs_stay rows x k z a b (apart z q))),
  body_joins_same g (pairs_of (set rows k x)) (pairs_of rows) (choice_of r m) i j (λ z q a b ha hb. pairs_stay rows x k z a b (apart z q)),
)
  where
    apart : (z : ℕ) → IsIn z (body_of g (choice_of r m)) → z ≢ k
    apart z q e = let f = (falls g r m wf h (held.is_view.expanded m o.1)).lower z q in let s = ap (rank_of r) e in absurd (omega arith)

-- what is known of another module stays
induced_stays : (g : Grammar) (v : HeldView) (r : Ranking) (rows : List (Option (List ℕ))) (x : Option (List ℕ)) (k m : ℕ) → IsWellFormed g → IsRankingOf g r → IsHeldFor g v → IsSeenExpanded g v.core m → rank_of r m ≤ rank_of r k → m ≢ k → HasInduced g r rows m → HasInduced g r (set rows k x) m
induced_stays g v r rows x k m wf h held o l n s = record {
  held = rows_stay g rows x k m n s.held;
  pairs = λ i j hi hj.
      let stay = joins_stay g v r rows x k m wf h held o l i j in
      let was = subst (λ b. IsTrue b ↔ BodyJoins g (pairs_of rows) (choice_of r m) i j) (sym (pairs_stay rows x k m i j n)) (s.pairs i j hi hj) in (
        (λ t. stay.0 (was.0 t)),
        (λ w. was.1 (stay.1 w)),
      );
}

-- so the next module of the rank is reached
pub next_before : (g : Grammar) (v : HeldView) (r : Ranking) (n k : ℕ) (old new : List (Option (List ℕ))) → IsWellFormed g → IsRankingOf g r → IsHeldFor g v → AreInducedBefore g v.core r n k old → IsSeenExpanded g v.core k → rank_of r k ≡ n → GetsInduced g (choice_of r k) old new → AreInducedBefore g v.core r n (k + 1) new
next_before g v r n k old new wf h held b o e s =
    let f = falls g r k wf h (held.is_view.expanded k o.1) in
    let low = seen_below g v.core k wf o.0 in
    let len = b.one_each in
    subst (AreInducedBefore g v.core r n (k + 1)) (sym (s.set ∙ ap (λ z. set old z (Some s.rows)) f.of_module.1)) (record {
      one_each = length-set old k (Some s.rows) ∙ b.one_each;
      fit = fit_set g old s.rows k (this (omega arith) f.of_module.1).held b.fit;
      shown = λ m seen x. shown_stays g v.core old (Some s.rows) k m (λ q. true≢false (sym (ap (expands v.core) q ∙ o.1) ∙ x)) (b.shown m seen x);
      induced = λ m p c. elim (cases_eq m k) [
        | inl q ↦ subst (HasInduced g r (set old k (Some s.rows))) (sym q) (this (omega arith) f.of_module.1)
        | inr q ↦ ⊎_elim (λ d. induced_stays g v r old (Some s.rows) k m wf h held p (⊎_elim (λ (z : rank_of r m < n). omega arith) (λ (z : (rank_of r m ≡ n) × (m < k)). let y = z.0 in omega arith) d) q (b.induced m p d)) (λ (d : (rank_of r m ≡ n) × (m ≡ k)). absurd (q d.1)) (before_cases (rank_of r m) m n k c)
      ];
    })
  where
    this : k < length old → head_of g (choice_of r k) ≡ k → HasInduced g r (set old k (Some s.rows)) k
    this l q =
        let known = matrix_set g old s.rows k (BodyJoins g (pairs_of old) (choice_of r k)) l (subst (λ z. Rattle.wf_body.specs.Matrices.IsMatrixOf (inputs_of g z) (outputs_of g z) (BodyJoins g (pairs_of old) (choice_of r k)) (record { rows = s.rows; columns = outputs_of g z })) q s.induced) in
        record {
          held = known.held;
          pairs = λ i j hi hj.
              let stay = joins_stay g v r old (Some s.rows) k k wf h held o (omega arith) i j in
              let was = known.pairs i j hi hj in (
                (λ t. stay.0 (was.0 t)),
                (λ w. was.1 (stay.1 w)),
              );
        }

-- after the last module of a rank comes the next rank
pub next_rank : (g : Grammar) (u : View) (r : Ranking) (n : ℕ) (rows : List (Option (List ℕ))) → IsWellFormed g → AreInducedBefore g u r n (length g.modules) rows → AreInducedBefore g u r (n + 1) 0 rows
next_rank g u r n rows wf b = record {
  one_each = b.one_each;
  fit = b.fit;
  shown = b.shown;
  induced = λ m o c. b.induced m o (cases (rank_of r m) m (seen_below g u m wf o.0) c);
}
  where
    cases : (a m : ℕ) → m < length g.modules → ComesBefore a m (n + 1) 0 → ComesBefore a m n (length g.modules)
    cases a m l (inl z) = elim (cases_eq a n) [ inl e ↦ inr (e, l) | inr e ↦ inl (omega arith) ]
    cases a m l (inr z) = let y = z.1 in absurd (omega arith)

-- after the greatest rank all is known
pub all_induced : (g : Grammar) (u : View) (r : Ranking) (n : ℕ) (rows : List (Option (List ℕ))) → IsRankingOf g r → ((m : ℕ) → m < length g.modules → rank_of r m ≤ n) → AreInducedBefore g u r (n + 1) 0 rows → AreInduced g u r rows
all_induced g u r n rows h most b = record {
  one_each = b.one_each;
  fit = b.fit;
  shown = b.shown;
  induced = λ m o. b.induced m o (inl (within m));
}
  where
    within : (m : ℕ) → rank_of r m < n + 1
    within m =
        elim (cases_lt m (length g.modules)) [
          | inl l ↦ let q = most m l in omega arith
          | inr l ↦ let e = h.one_rank_each in
              let q : rank_of r m ≡ 0 = get_or_past r.ranks m 0 (omega arith) in
              omega arith
        ]
