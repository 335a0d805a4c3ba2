-- The witness that is told of a disagreement.
use Rattle.std.proofs.Common.{◌≡◌, ◌↔◌, ℕ, ◌<◌, Bool, true, false, IsTrue, List, sym, subst}
use Rattle.wf_model.specs.declared.numbers.ModNo.{ModNo}
use Rattle.wf_model.specs.declared.numbers.ProdNo.{ProdNo}
use Rattle.wf_model.specs.Grammar.{Grammar, inputs_of, outputs_of, head_of}
use Rattle.wf_model.specs.View.{View}
use Rattle.wf_model.specs.Meaning.{pairs_of}
use Rattle.wf_model.specs.WellFormed.{IsWellFormed}
use Rattle.wf_model.specs.Safe.{BodyJoins, Joins, IsChosen}
use Rattle.wf_model.proofs.Lists.{in_map_from}
use Rattle.wf_check.specs.Proper.{Ranking, IsRankingOf}
use Rattle.wf_view.specs.Held.{HeldView, IsHeldFor}
use Rattle.wf_safe.specs.declared.witness.Choice.{Choice}
use Rattle.wf_safe.specs.declared.safety.disagreement.Disagreement.{Disagreement}
use Rattle.wf_safe.specs.Disagreeing.{IsFound}
use Rattle.wf_safe.specs.Inducing.{choice_of, IsSeenExpanded}
use Rattle.wf_safe.specs.Witness.{AreDisagreeing, Disagree, IsChoiceOf, IsFirstWitness, chosen_in}
use Rattle.wf_safe.proofs.ByRows.{AreRanked, both_expansions, induced_by}

-- a choice whose productions attain the ranks names the choice of each seen, expanded module
choice_ranked : (g : Grammar) (u : View) (r : Ranking) (choice : List (ℕ × ℕ)) → IsChoiceOf g u choice → ((m p : ℕ) → IsChosen choice m p → p ≡ choice_of r m) → AreRanked g u r choice
choice_ranked g u r choice c ranked = record {
  named = λ m o. let q = in_map_from (λ (z : ℕ × ℕ). z.0) m choice (c.all m o.0 o.1) in
      let here : IsChosen choice m q.0.1 = subst (λ k. IsChosen choice k q.0.1) (sym q.2) q.1 in
      subst (IsChosen choice m) (ranked m q.0.1 here) here;
  ranked = ranked;
}

-- facts that hold exactly if others do disagree as these do
disagree_same : (b : Bool) (P Q R S : Type 0) → Disagree b P Q → P ↔ R → Q ↔ S → Disagree b R S
disagree_same true P Q R S d e f = (e.0 d.0, λ s. d.1 (f.1 s))
disagree_same false P Q R S d e f = ((λ z. d.0 (e.1 z)), f.0 d.1)

module _ (g : Grammar) (v : HeldView) (r : Ranking) (x : Disagreement) (list : List Choice) (wf : IsWellFormed g) (h : IsRankingOf g r) (held : IsHeldFor g v) (f : IsFound g v.core r x) (c : IsChoiceOf g v.core (chosen_in list)) (ranked : (m p : ℕ) → IsChosen (chosen_in list) m p → p ≡ choice_of r m) where
  of_ranks : AreRanked g v.core r (chosen_in list)
  of_ranks = choice_ranked g v.core r (chosen_in list) c ranked

  -- the two expansions
  runs : AreDisagreeing g v.core (chosen_in list) (head_of g x.production.0) x.production.0 x.pair.input.0 x.pair.output.0 x.pair.in_first
  runs =
      let p = x.production.0 in
      let d = f.least.pair in
      let both = both_expansions g v r f.rows (chosen_in list) wf h held f.induced of_ranks in
      let one = both.chosen (head_of g p) d.head.0 in
      let other = both.other p f.least.production d.head.0 d.head.1 in
      record {
        one_run = one.events;
        is_one = record { expansion_of = one.expansion_of; by = one.by };
        other_run = other.events;
        is_other = record { expansion_of = other.expansion_of; by = other.by };
        disagree = disagree_same x.pair.in_first (IsTrue (pairs_of f.rows (head_of g p) x.pair.input.0 x.pair.output.0)) (BodyJoins g (pairs_of f.rows) p x.pair.input.0 x.pair.output.0) (Joins g v.core (head_of g p) one.events x.pair.input.0 x.pair.output.0) (Joins g v.core (head_of g p) other.events x.pair.input.0 x.pair.output.0)
            d.disagree (one.joins x.pair.input.0 x.pair.output.0 d.input d.output) (other.joins x.pair.input.0 x.pair.output.0);
      }

  pub first_witness : (m : ModNo) (one : ProdNo) → m.0 ≡ head_of g x.production.0 → one.0 ≡ choice_of r m.0 →
      IsFirstWitness g v.core r (record { «module» = m; one = one; other = x.production; input = x.pair.input; output = x.pair.output; joined_by_one = x.pair.in_first; choice = list })
  first_witness m one e q =
      let d = f.least.pair in
      record {
        witness = record {
          choice = c;
          one = subst (IsChosen (chosen_in list) m.0) (sym q) (of_ranks.named m.0 (subst (IsSeenExpanded g v.core) (sym e) d.head));
          other = (f.least.production, sym e);
          input = subst (λ k. x.pair.input.0 < inputs_of g k) (sym e) d.input;
          output = subst (λ k. x.pair.output.0 < outputs_of g k) (sym e) d.output;
          runs = subst (λ k. AreDisagreeing g v.core (chosen_in list) k x.production.0 x.pair.input.0 x.pair.output.0 x.pair.in_first) (sym e) runs;
        };
        ranked = ranked;
        pairs = pairs_of f.rows;
        induced = induced_by g v r f.rows (chosen_in list) wf h held f.induced of_ranks;
        least = λ p l seen t. f.least.least p l (seen, t);
        first = λ i o hi ho b. d.first i o (subst (λ k. i < inputs_of g k) e hi) (subst (λ k. o < outputs_of g k) e ho) b;
      }
