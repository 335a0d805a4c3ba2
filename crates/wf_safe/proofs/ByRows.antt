-- What the rows that chosen productions induce tell of a view: it is safe exactly if each production agrees with its seen, expanded head.
use Rattle.std.proofs.Common.{◌≡◌, ◌↔◌, ℕ, ◌<◌, Bool, true, false, IsTrue, List, map, length, Option, refl, sym, ap, ◌∙◌, subst, arith}
use Rattle.std.specs.Cmp.Derive.{one_truth}
use Rattle.wf_model.specs.Lists.{numbers_from}
use Rattle.wf_model.specs.Grammar.{Grammar, head_of}
use Rattle.wf_model.specs.View.{View, expands, shows, IsSeenModule}
use Rattle.wf_model.specs.Meaning.{pairs_of}
use Rattle.wf_model.specs.WellFormed.{IsWellFormed}
use Rattle.wf_model.specs.Safe.{BodyJoins, IsSafe, IsInduced, IsInducedBy, IsChosen, Ends}
use Rattle.wf_model.proofs.Lists.{in_map, in_map_from}
use Rattle.wf_model.proofs.Level.{numbers_in}
use Rattle.wf_body.specs.Matrices.{HasRows}
use Rattle.wf_check.specs.Proper.{Ranking, IsRankingOf}
use Rattle.wf_view.specs.Held.{HeldView, IsHeldFor}
use Rattle.wf_laws.specs.Chosen.{HasBothExpansions}
use Rattle.wf_laws.specs.Ranked.{RanksFall}
use Rattle.wf_laws.proofs.Ranked.{ends_law}
use Rattle.wf_laws.proofs.Safe.{one_test_suffices}
use Rattle.wf_laws.proofs.Safety.{chosen_law, safety_law}
use Rattle.wf_safe.specs.Disagreeing.{AgreesIfExpanded, IsFound}
use Rattle.wf_safe.specs.declared.safety.disagreement.Disagreement.{Disagreement}
use Rattle.wf_safe.specs.Full.{AreFullRows}
use Rattle.wf_safe.specs.Inducing.{rank_of, choice_of, IsSeenExpanded, AreInduced}
use Rattle.wf_safe.specs.Witness.{Disagree}
use Rattle.wf_safe.proofs.Falling.{falls}
use Rattle.wf_safe.proofs.SeenBelow.{seen_below}

-- each seen module has rows
pub each_has_rows : (g : Grammar) (u : View) (r : Ranking) (rows : List (Option (List ℕ))) → AreInduced g u r rows → (m : ℕ) → IsSeenModule g u m → HasRows g rows m
each_has_rows g u r rows known m seen = go (expands u m) refl
  where
    go : (t : Bool) → expands u m ≡ t → HasRows g rows m
    go true e = (known.induced m (seen, e)).held
    go false e = (known.shown m seen e).held

-- a list that chooses for each seen, expanded module the production that attains its rank, and no other production
pub record AreRanked (g : Grammar) (u : View) (r : Ranking) (choice : List (ℕ × ℕ)) : Type 0 where
  pub named : (m : ℕ) → IsSeenExpanded g u m → IsChosen choice m (choice_of r m)
  pub ranked : (m p : ℕ) → IsChosen choice m p → p ≡ choice_of r m

module _ (g : Grammar) (v : HeldView) (r : Ranking) (rows : List (Option (List ℕ))) (choice : List (ℕ × ℕ)) (wf : IsWellFormed g) (h : IsRankingOf g r) (held : IsHeldFor g v) (known : AreInduced g v.core r rows) (c : AreRanked g v.core r choice) where
  fall : RanksFall g v.core choice (rank_of r)
  fall m seen x = let f = falls g r m wf h (held.is_view.expanded m x) in (choice_of r m, c.named m (seen, x), f.of_module, f.lower)

  ends : (m : ℕ) → IsSeenModule g v.core m → (n : ℕ) × Ends g v.core (IsChosen choice) n m
  ends = ends_law g v.core choice (rank_of r) fall

  pub induced_by : IsInducedBy g v.core (IsChosen choice) (pairs_of rows)
  induced_by = record {
    shown = λ m seen x i o hi ho. let q = (known.shown m seen x).pairs i o hi ho in one_truth (pairs_of rows m i o) (shows v.core m i o) q.0 q.1;
    induced = λ p hp q seen x i o hi ho. subst (λ z. IsTrue (pairs_of rows (head_of g p) i o) ↔ BodyJoins g (pairs_of rows) z i o) (sym (c.ranked (head_of g p) p q)) ((known.induced (head_of g p) (seen, x)).pairs i o hi ho);
  }

  safe_exactly : IsSafe g v.core ↔ IsInduced g v.core (pairs_of rows)
  safe_exactly = safety_law g v.core (pairs_of rows) choice wf ends induced_by

  pub both_expansions : HasBothExpansions g v.core (pairs_of rows) choice
  both_expansions = chosen_law g v.core (pairs_of rows) choice wf ends induced_by

-- the choice of each module, seen and expanded or not
abbrev every_choice : Ranking → ℕ → List (ℕ × ℕ)
every_choice r n = map (λ m. (m, choice_of r m)) (numbers_from 0 n)

every_ranked : (g : Grammar) (u : View) (r : Ranking) → IsWellFormed g → AreRanked g u r (every_choice r (length g.modules))
every_ranked g u r wf = record {
  named = λ m o. in_map (λ k. (k, choice_of r k)) m (numbers_from 0 (length g.modules)) (numbers_in m 0 (length g.modules) (omega arith) (let l = seen_below g u m wf o.0 in omega arith));
  ranked = λ m p i. let q = in_map_from (λ k. (k, choice_of r k)) (m, p) (numbers_from 0 (length g.modules)) i in
      let e : (m, p) ≡ (q.0, choice_of r q.0) = q.2 in
      ap (λ (z : ℕ × ℕ). z.1) e ∙ ap (λ (z : ℕ × ℕ). choice_of r z.0) (sym e);
}

module _ (g : Grammar) (v : HeldView) (r : Ranking) (rows : List (Option (List ℕ))) (wf : IsWellFormed g) (h : IsRankingOf g r) (held : IsHeldFor g v) (known : AreInduced g v.core r rows) where
  exactly : IsSafe g v.core ↔ IsInduced g v.core (pairs_of rows)
  exactly = safe_exactly g v r rows (every_choice r (length g.modules)) wf h held known (every_ranked g v.core r wf)

  all_induce : ((p : ℕ) → p < length g.productions → AgreesIfExpanded g v.core (pairs_of rows) p) → IsInduced g v.core (pairs_of rows)
  all_induce agree = record {
    shown = (induced_by g v r rows (every_choice r (length g.modules)) wf h held known (every_ranked g v.core r wf)).shown;
    induced = λ p hp seen x i o hi ho. agree p hp (seen, x) i o hi ho;
  }

  pub safe_told : ((p : ℕ) → p < length g.productions → AgreesIfExpanded g v.core (pairs_of rows) p) → IsSafe g v.core
  safe_told agree = exactly.1 (all_induce agree)

  pub full_told : ((p : ℕ) → p < length g.productions → AgreesIfExpanded g v.core (pairs_of rows) p) → AreFullRows g v.core rows
  full_told agree = record {
    places = known.one_each;
    fit = known.fit;
    each = each_has_rows g v.core r rows known;
    full = one_test_suffices g v.core (pairs_of rows) wf (all_induce agree);
    induced = all_induce agree;
  }

-- one of two facts that imply each other does not hold without the other
apart : (b : Bool) (P Q : Type 0) → Disagree b P Q → P ↔ Q → ⊥
apart true P Q d e = d.1 (e.0 d.0)
apart false P Q d e = d.0 (e.1 d.1)

-- a view with a disagreement is not safe
pub found_not_safe : (g : Grammar) (v : HeldView) (r : Ranking) (x : Disagreement) → IsWellFormed g → IsRankingOf g r → IsHeldFor g v → IsFound g v.core r x → IsSafe g v.core → ⊥
found_not_safe g v r x wf h held f safe =
    let p = x.production.0 in
    let d = f.least.pair in
    let ind = (exactly g v r f.rows wf h held f.induced).0 safe in
    apart x.pair.in_first (IsTrue (pairs_of f.rows (head_of g p) x.pair.input.0 x.pair.output.0)) (BodyJoins g (pairs_of f.rows) p x.pair.input.0 x.pair.output.0) d.disagree
    (ind.induced p f.least.production d.head.0 d.head.1 x.pair.input.0 x.pair.output.0 d.input d.output)
