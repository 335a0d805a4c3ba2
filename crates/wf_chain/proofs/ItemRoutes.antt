-- Routes through numbered items are the chains of these items, and the first of the shortest routes is the first of the shortest chains.
use Rattle.std.proofs.Common.{◌≡◌, ℕ, suc, ◌<◌, ◌≤◌, List, [], ◌∷◌, map, length, refl, sym, ap, subst, ◌∙◌, inl, inr, arith}
use Rattle.wf_model.specs.Lists.{IsIn, IsAt}
use Rattle.wf_model.specs.Grammar.{Grammar, Assignment}
use Rattle.wf_model.specs.View.{View}
use Rattle.wf_model.specs.declared.event.Event.{Event}
use Rattle.wf_model.specs.Run.{Instance}
use Rattle.wf_model.specs.Items.{Item, items, IsVisible}
use Rattle.wf_model.proofs.Lists.{at_in}
use Rattle.wf_graph.specs.Routes.{IsRoute, place_of, choices_of, IsFirstOf, IsFirstShortest}
use Rattle.wf_graph.proofs.Routes.{place_one}
use Rattle.chain_model.specs.Chains.{ChainStep, IsStepFrom, StepsLead, IsItemChain}
use Rattle.chain_model.specs.Shortest.{items_along, ComesFirst, IsFirstShortestChain}
use Rattle.wf_chain.specs.ItemSteps.{steps_by}

-- The items of a run by number, the instance that consumes each, and a graph of the numbers in which each visible item leads to those to which a step goes on from it, in order
pub record IsItemGraph (g : Grammar) (u : View) (d : Assignment) (m : ℕ) (events : List Event) (count : ℕ) (item : ℕ → Item) (via : ℕ → Instance) (row : ℕ → List ℕ) : Type 0 where
  pub at : (k : ℕ) → k < count → IsAt (item k) k (items g m events)
  pub one : (j k : ℕ) → j < count → k < count → item j ≡ item k → j ≡ k
  pub number : (t : Item) → IsIn t (items g m events) → (k : ℕ) × (k < count) × (item k ≡ t)
  pub in_range : (k w : ℕ) → IsIn w (row k) → w < count
  pub sound : (k w : ℕ) → k < count → IsVisible g u m events (item k) → IsIn w (row k) → IsStepFrom g u d m events (item k) (record { via = via k; item = item w })
  pub complete : (k w : ℕ) (n : Instance) → k < count → w < count → IsVisible g u m events (item k) → IsStepFrom g u d m events (item k) (record { via = n; item = item w }) → IsIn w (row k)
  pub rising : (k w x : ℕ) → IsIn w (row k) → IsIn x (row k) → place_of w (row k) < place_of x (row k) → w < x

module _ (g : Grammar) (u : View) (d : Assignment) (m : ℕ) (events : List Event) (count : ℕ) (item : ℕ → Item) (via : ℕ → Instance) (row : ℕ → List ℕ) (graph : IsItemGraph g u d m events count item via row) where
  abbrev IsSeen : ℕ → Type 0
  IsSeen k = IsVisible g u m events (item k)

  abbrev Leads : ℕ → List ChainStep → Item → Type 0
  Leads a steps y = StepsLead g u d m events (item a) steps y

  -- a vertex to which a visible one leads is visible
  leads_visible : (k w : ℕ) → k < count → IsSeen k → IsIn w (row k) → IsSeen w
  leads_visible k w h s i = (graph.sound k w h s i).visible

  -- the steps of a chain go along a route of as many vertices
  record IsAlong (a b : ℕ) (steps : List ChainStep) : Type 0 where
    route : List ℕ
    is_route : IsRoute row a route b
    as_many : length route ≡ length steps
    same : items_along steps ≡ map item route

  -- the number of the last item is where the route ends
  chain_along : (a : ℕ) (steps : List ChainStep) (y : Item) → a < count → IsSeen a → Leads a steps y → (b : ℕ) × (item b ≡ y) × (b < count) × IsAlong a b steps
  chain_along a [] y h s l = (a, l, h, record { route = []; is_route = refl; as_many = refl; same = refl })
  chain_along a (x ∷ steps) y h s l =
      let n = graph.number x.item l.0.there in
      let i = graph.complete a n.0 x.via h n.1 s (subst (λ z. IsStepFrom g u d m events (item a) (record { via = x.via; item = z })) (sym n.2) l.0) in
      let r = chain_along n.0 steps y n.1 (leads_visible a n.0 h s i) (subst (λ z. StepsLead g u d m events z steps y) (sym n.2) l.1) in
      (r.0, r.1, r.2, record { route = n.0 ∷ r.3.route; is_route = (i, r.3.is_route); as_many = ap suc r.3.as_many; same = λ k. sym n.2 k ∷ r.3.same k })

  -- a route has such steps
  route_leads : (a b : ℕ) (ws : List ℕ) → a < count → IsSeen a → IsRoute row a ws b → Leads a (steps_by via item a ws) (item b)
  route_leads a b [] h s r = ap item r
  route_leads a b (w ∷ ws) h s r = (graph.sound a w h s r.0, route_leads w b ws (graph.in_range a w r.0) (leads_visible a w h s r.0) r.1)

  steps_items : (a : ℕ) (ws : List ℕ) → items_along (steps_by via item a ws) ≡ map item ws
  steps_items a [] = refl
  steps_items a (w ∷ ws) = ap (λ l. item w ∷ l) (steps_items w ws)

  steps_length : (a : ℕ) (ws : List ℕ) → length (steps_by via item a ws) ≡ length ws
  steps_length a [] = refl
  steps_length a (w ∷ ws) = ap suc (steps_length w ws)

  -- of two routes as long the first by choices comes first by its items
  first_route : (a b c : ℕ) (ws us : List ℕ) → a < count → IsSeen a → IsRoute row a ws b → IsRoute row a us c → length us ≡ length ws → IsFirstOf (choices_of row a ws) (choices_of row a us) →
      ComesFirst (items g m events) (map item ws) (map item us)
  first_route a b c [] us h s r q e f = tt
  first_route a b c (w ∷ ws) [] h s r q e f = absurd f
  first_route a b c (w ∷ ws) (x ∷ us) h s r q e (inl l) = inl (w, x, graph.at w (graph.in_range a w r.0), graph.at x (graph.in_range a x q.0), graph.rising a w x r.0 q.0 l)
  first_route a b c (w ∷ ws) (x ∷ us) h s r q e (inr f) =
      let same : w ≡ x = place_one w x (row a) r.0 q.0 f.0 in
      let n : length us ≡ length ws = omega arith in
      inr (
        ap item same,
        first_route w b c ws us (graph.in_range a w r.0) (leads_visible a w h s r.0) r.1 (subst (λ z. IsRoute row z us c) (sym same) q.1) n (subst (λ z. IsFirstOf (choices_of row w ws) (choices_of row z us)) (sym same) f.1),
      )

  module _ (a b : ℕ) (there : a < count) (there_too : b < count) (seen : IsSeen a) where
    -- a chain goes along a route
    along : (steps : List ChainStep) → IsItemChain g u d m events (item a) steps (item b) → IsAlong a b steps
    along steps c =
        let r = chain_along a steps (item b) there seen c.steps_lead in
        subst (λ z. IsAlong a z steps) (graph.one r.0 b r.2 there_too r.1) r.3

    -- where no route leads, no chain does
    pub no_chain : ((ws : List ℕ) → 0 < length ws → IsRoute row a ws b → ⊥) → (steps : List ChainStep) → ¬ IsItemChain g u d m events (item a) steps (item b)
    no_chain none steps c =
        let r = along steps c in
        none r.route (subst (λ n. 0 < n) (sym r.as_many) c.some) r.is_route

    -- the steps along the first of the shortest routes are the first of the shortest chains
    pub first_chain : (ws : List ℕ) → IsFirstShortest row a b ws → IsFirstShortestChain g u d m events (item a) (steps_by via item a ws) (item b)
    first_chain ws f =
        let n = steps_length a ws in
        record {
          chain = record { there = at_in (item a) a (items g m events) (graph.at a there); visible = seen; some = subst (λ k. 0 < k) (sym n) f.some; steps_lead = route_leads a b ws there seen f.route };
          fewest = λ others c.
              let r = along others c in
              let some : 0 < length r.route = subst (λ k. 0 < k) (sym r.as_many) c.some in
              subst (λ k. k ≤ length others) (sym n) (subst (λ k. length ws ≤ k) r.as_many (f.shortest r.route some r.is_route));
          first = λ others c q.
              let r = along others c in
              let as_many : length r.route ≡ length ws = r.as_many ∙ (q ∙ n) in
              subst (λ z. ComesFirst (items g m events) (items_along (steps_by via item a ws)) z) (sym r.same)
              (subst (λ z. ComesFirst (items g m events) z (map item r.route)) (sym (steps_items a ws))
              (first_route a b b ws r.route there seen f.route r.is_route as_many (f.first r.route r.is_route as_many)));
        }
