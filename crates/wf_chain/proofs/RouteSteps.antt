-- The steps of a route through the items of a graph, made vertex by vertex.
use Rattle.std.proofs.Common.{◌≡◌, ℕ, ◌+◌, ◌<◌, ◌≤◌, List, [], ◌∷◌, ◌++◌, drop, length, get_or, Option, Some, None, refl, sym, ap, subst, ◌∙◌, append_assoc, append-nil}
use Rattle.std.proofs.lemmas.List.{drop_more, drop_all}
use Rattle.wf_model.specs.Lists.{IsIn}
use Rattle.wf_model.proofs.Lists.{in_filter_from}
use Rattle.wf_graph.specs.Routes.{IsRoute}
use Rattle.wf_flat.specs.declared.graph.Port.{Port as PortHeld}
use Rattle.wf_flat.specs.declared.item.Item.{Item as ItemHeld}
use Rattle.wf_chain.specs.declared.chain.ChainStep.{ChainStep as StepHeld}
use Rattle.wf_chain.specs.ViewedRuns.{ViewedRunValue}
use Rattle.wf_chain.proofs.MadeSteps.{made_below}
use Rattle.wf_chain.specs.ItemGraphs.{is_joined, led_to, led_from, via_of, steps_held, no_item}

-- steps were made of the first k vertices of a route, the last of which is `at`
pub record IsPartWay (v : ViewedRunValue) (is : List ItemHeld) (consumed produced : List (Option PortHeld)) (from : ℕ) (route : List ℕ) (steps : List StepHeld) (at k : ℕ) : Type 0 where
  pub so_far : steps ++ steps_held is consumed at (drop k route) ≡ steps_held is consumed from route
  pub there : at < length is
  pub way_on : (to : ℕ) × IsRoute (led_from v consumed produced) at (drop k route) to

module _ (v : ViewedRunValue) (is : List ItemHeld) (consumed produced : List (Option PortHeld)) (from : ℕ) (route : List ℕ) where
  abbrev row : ℕ → List ℕ
  row = led_from v consumed produced

  abbrev IsAfter : List StepHeld → ℕ → ℕ → Type 0
  IsAfter = IsPartWay v is consumed produced from route

  pub set_out : from < length is → (to : ℕ) × IsRoute row from route to → IsAfter [] from 0
  set_out there way = record { so_far = refl; there = there; way_on = way }

  module _ (steps : List StepHeld) (at k : ℕ) (h : IsAfter steps at k) where
    pub arrived : length route ≤ k → steps ≡ steps_held is consumed from route
    arrived past = sym (append-nil steps) ∙ (ap (λ l. steps ++ steps_held is consumed at l) (sym (drop_all k route past)) ∙ h.so_far)

    module _ (low : k < length route) where
      abbrev w : ℕ
      w = get_or route k 0

      left : drop k route ≡ w ∷ drop (k + 1) route
      left = drop_more route k 0 low

      way : (to : ℕ) × IsIn w (row at) × IsRoute row w (drop (k + 1) route) to
      way = let r = h.way_on in let e = subst (λ l. IsRoute row at l r.0) left r.1 in (r.0, e.0, e.1)

      -- the item of a vertex that is gone on from is consumed
      pub is_consumed : get_or consumed at None ≡ None → ⊥
      is_consumed e = subst (λ o. IsIn w (led_to v produced o)) e way.1

      module _ (p : PortHeld) (is_p : get_or consumed at None ≡ Some p) where
        pub next_there : length produced ≡ length is → w < length is
        next_there count =
            let r = in_filter_from (λ x. is_joined v p (get_or produced x None)) w _ (subst (λ o. IsIn w (led_to v produced o)) is_p way.1) in
            subst (λ n. w < n) count (made_below produced p.instance w r.0)

        pub gone_on : length produced ≡ length is → (new : List StepHeld) → new ≡ steps ++ record { via = p.instance; item = get_or is w no_item } ∷ [] → IsAfter new w (k + 1)
        gone_on count new e =
            let rest = steps_held is consumed w (drop (k + 1) route) in
            let step : StepHeld = record { via = p.instance; item = get_or is w no_item } in
            let head : record { via = p.instance; item = get_or is w no_item } ≡ record { via = via_of (get_or consumed at None); item = get_or is w no_item } = λ z. record { via = via_of (sym is_p z); item = get_or is w no_item } in
            record {
              so_far = ap (λ l. l ++ rest) e ∙ (append_assoc steps (step ∷ []) rest ∙ (ap (λ s. steps ++ s ∷ rest) head ∙ (ap (λ l. steps ++ steps_held is consumed at l) (sym left) ∙ h.so_far)));
              there = next_there count;
              way_on = (way.0, way.2);
            }
