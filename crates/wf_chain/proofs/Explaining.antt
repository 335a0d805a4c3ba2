-- The first of the shortest routes through the items of a run is the first of the shortest chains.
use Rattle.std.proofs.Common.{◌≡◌, ℕ, ◌<◌, List, length, get_or, Option, sym, ap, subst, ◌∙◌}
use Rattle.wf_model.specs.Lists.{IsIn, IsAt}
use Rattle.wf_model.proofs.Lists.{is_at, at_is, at_in, at_below}
use Rattle.wf_graph.specs.Routes.{IsRoute, AreInRange, IsFirstShortest}
use Rattle.chain_model.specs.Shortest.{IsFirstShortestChain}
use Rattle.wf_flat.specs.declared.graph.Port.{Port as PortHeld}
use Rattle.wf_flat.specs.declared.item.Item.{Item as ItemHeld}
use Rattle.wf_flat.specs.Table.{IsTableOf}
use Rattle.wf_safe.specs.SafeViews.{IsSafeView}
use Rattle.wf_chain.specs.ItemLists.{AreItemsOf}
use Rattle.wf_chain.specs.declared.chain.Chain.{Chain}
use Rattle.wf_chain.specs.ViewedRuns.{ViewedRunValue, grammar_in, view_in, full_in, events_in, item_in, IsItemIn}
use Rattle.wf_chain.specs.Chains.{steps_in, HasNoChain, IsExplained}
use Rattle.wf_chain.specs.ItemGraphs.{IsShown, IsConsumerOf, IsProducerOf, no_item, AreEach, led_from, steps_held, IsGraphOf}
use Rattle.wf_chain.proofs.SameHeld.{same_held}
use Rattle.wf_chain.proofs.ItemGraphs.{number, in_range, item_graph, steps_there, steps_same}
use Rattle.wf_chain.proofs.ItemRoutes.{no_chain, first_chain}

-- the lists that were made one by one, as the graph has them
pub graph_made : (v : ViewedRunValue) → IsSafeView v.viewed → IsTableOf (grammar_in v) v.run → (is : List ItemHeld) → AreItemsOf (grammar_in v) v.run is → (cs consumed ps produced : List (Option PortHeld)) →
    AreEach (IsConsumerOf v) is (length is) cs → AreEach (IsProducerOf v) is (length is) ps → consumed ≡ cs → produced ≡ ps → IsGraphOf v is consumed produced
graph_made v safe run is items cs consumed ps produced consumers producers c p =
    record {
      safe = safe;
      run = run;
      items = items;
      consumers = subst (AreEach (IsConsumerOf v) is (length is)) (sym c) consumers;
      producers = subst (AreEach (IsProducerOf v) is (length is)) (sym p) producers;
    }

module _ (v : ViewedRunValue) (is : List ItemHeld) (consumed produced : List (Option PortHeld)) (h : IsGraphOf v is consumed produced) where
  abbrev row : ℕ → List ℕ
  row = led_from v consumed produced

  -- each held item of the run is one of them
  pub in_items : (i : ItemHeld) → IsItemIn v i → IsIn i is
  in_items i held =
      let n = number v h.run h.safe is consumed produced h.items h.consumers h.producers (item_in v i) held.there in
      let x = get_or is n.0 no_item in
      let there = at_in x n.0 is (is_at n.0 is no_item n.1) in
      subst (λ z. IsIn z is) (same_held (grammar_in v) v.run h.run x i (h.items.each x there).within held.within n.2) there

  pub rows_in_range : AreInRange row (length consumed)
  rows_in_range k w i = subst (λ n. w < n) (sym h.consumers.count) (in_range v h.run h.safe is consumed produced h.items h.consumers h.producers k w i)

  module _ (first second : ItemHeld) (a b : ℕ) (from : IsAt first a is) (to : IsAt second b is) (shown : IsShown v first) where
    place_is : (i : ItemHeld) (k : ℕ) → IsAt i k is → get_or is k no_item ≡ i
    place_is i k at = at_is i k is no_item at

    seen : IsShown v (get_or is a no_item)
    seen = subst (IsShown v) (sym (place_is first a from)) shown

    pub no_route : ((ws : List ℕ) → 0 < length ws → IsRoute row a ws b → ⊥) → HasNoChain v first second
    no_route none =
        subst (λ i. HasNoChain v i second) (place_is first a from) (subst (λ j. HasNoChain v (get_or is a no_item) j) (place_is second b to)
        (no_chain (grammar_in v) (view_in v) (full_in v) (grammar_in v).start (events_in v) (length is) _ _ row (item_graph v h.run h.safe is consumed produced h.items h.consumers h.producers)
        a b (at_below first a is from) (at_below second b is to) seen none))

    pub first_route : (ws : List ℕ) → IsFirstShortest row a b ws → (c : Chain) → c.first ≡ first → c.steps.items ≡ steps_held is consumed a ws → IsExplained v first second c
    first_route ws f c begins steps =
        let chain = first_chain (grammar_in v) (view_in v) (full_in v) (grammar_in v).start (events_in v) (length is) _ _ row (item_graph v h.run h.safe is consumed produced h.items h.consumers h.producers)
        a b (at_below first a is from) (at_below second b is to) seen ws f in
        let same = ap (steps_in v) steps ∙ steps_same v h.run h.safe is consumed produced h.items h.consumers h.producers a ws in
        record {
          held = record {
            first = subst (IsItemIn v) (sym begins) (subst (IsItemIn v) (place_is first a from) (h.items.each (get_or is a no_item) (at_in (get_or is a no_item) a is (is_at a is no_item (at_below first a is from)))));
            steps = λ s i. steps_there v h.run h.safe is consumed produced h.items h.consumers h.producers a b ws f.route s (subst (IsIn s) steps i);
          };
          from = begins;
          first = subst (λ i. IsFirstShortestChain (grammar_in v) (view_in v) (full_in v) (grammar_in v).start (events_in v) (item_in v i) (steps_in v c.steps.items) (item_in v second)) (place_is first a from)
              (subst (λ j. IsFirstShortestChain (grammar_in v) (view_in v) (full_in v) (grammar_in v).start (events_in v) (item_in v (get_or is a no_item)) (steps_in v c.steps.items) (item_in v j)) (place_is second b to)
              (subst (λ ss. IsFirstShortestChain (grammar_in v) (view_in v) (full_in v) (grammar_in v).start (events_in v) (item_in v (get_or is a no_item)) ss (item_in v (get_or is b no_item))) (sym same) chain));
        }
