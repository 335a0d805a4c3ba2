-- The graph of the items of a run, by the ports at which they are consumed and produced.
use Rattle.std.proofs.Common.{◌≡◌, ℕ, zero, suc, ◌-◌, ◌^◌, ◌<◌, true, List, [], ◌∷◌, length, get_or, Option, Some, None, refl, sym, ap, subst, ◌∙◌, inl, inr, arith, eq-eqb}
use Rattle.std.proofs.Math.Logic.{∥∥₁_elim}
use Rattle.std.proofs.Props.{props}
use Rattle.std.proofs.lemmas.Bool.{eqb-true}
use Rattle.std.proofs.lemmas.List.{length-map}
use Rattle.wf_model.specs.declared.numbers.Side.{Side}
use Rattle.wf_model.specs.Lists.{IsIn, IsAt, numbers_from}
use Rattle.wf_model.specs.Grammar.{Grammar}
use Rattle.wf_model.specs.Run.{Instance}
use Rattle.wf_model.specs.Items.{Item, items}
use Rattle.wf_model.proofs.Lists.{is_at, at_is, at_in, in_at, at_below, in_filter, in_filter_from, differ_at}
use Rattle.wf_model.proofs.Level.{in_numbers, numbers_in}
use Rattle.wf_model.proofs.Mapping.{at_map}
use Rattle.wf_model.proofs.Rising.{IsRising, numbers_rise}
use Rattle.wf_graph.specs.Routes.{IsRoute}
use Rattle.wf_safe.specs.SafeViews.{IsSafeView}
use Rattle.chain_model.specs.Chains.{IsStepFrom}
use Rattle.chain_model.proofs.FirstChains.{items_differ}
use Rattle.wf_flat.specs.declared.graph.Port.{Port as PortHeld}
use Rattle.wf_flat.specs.declared.item.Item.{Item as ItemHeld}
use Rattle.wf_flat.specs.Table.{IsTableOf}
use Rattle.wf_flat.specs.Graph.{inst_at, named_port}
use Rattle.wf_flat.specs.Table.{names_in}
use Rattle.wf_flat.proofs.Named.{module_formed}
use Rattle.wf_chain.specs.declared.chain.ChainStep.{ChainStep as StepHeld}
use Rattle.wf_chain.specs.HeldItems.{side_names, module_of}
use Rattle.wf_chain.specs.ViewedRuns.{ViewedRunValue, grammar_in, view_in, full_in, events_in, item_in, IsItemIn}
use Rattle.wf_chain.specs.Steps.{IsLedTo, IsStepIn}
use Rattle.wf_chain.specs.Chains.{steps_in}
use Rattle.wf_chain.specs.ItemLists.{AreItemsOf}
use Rattle.wf_chain.specs.ItemSteps.{steps_by}
use Rattle.wf_chain.specs.ItemGraphs.{IsShown, IsConsumedAt, IsProducedAt, IsConsumerOf, IsProducerOf, no_item, AreEach, is_made_at, made_behind, AreMadeFrom, is_joined, led_to, led_from, IsGraphInRange, via_of, steps_held}
use Rattle.wf_chain.proofs.UnopenedPairs.{full_joins}
use Rattle.wf_chain.proofs.Stepping.{none_is_some, consumes_only, not_produced, the_output, pair_tells, led_goes, goes_led, same_number}
use Rattle.wf_chain.proofs.RisingPlaces.{filter_rises, rises_by_place}
use Rattle.wf_chain.proofs.ItemRoutes.{IsItemGraph}

-- what is there stands in the list
some_below : {A : Type 0} (os : List (Option A)) (k : ℕ) (x : A) → get_or os k None ≡ Some x → k < length os
some_below [] k x e = absurd (cc)
some_below (o ∷ os) zero x e = omega arith
some_below (o ∷ os) (suc k) x e = let r = some_below os k x e in omega arith

made_gives : (m : ℕ) (o : Option PortHeld) → is_made_at m o ≡ true → (q : PortHeld) × (o ≡ Some q) × (q.instance ≡ m)
made_gives m None e = absurd (cc)
made_gives m (Some q) e = (q, refl, eqb-true q.instance m e)

module _ (v : ViewedRunValue) (run : IsTableOf (grammar_in v) v.run) (safe : IsSafeView v.viewed) (is : List ItemHeld) (consumed produced : List (Option PortHeld)) (items_are : AreItemsOf (grammar_in v) v.run is)
    (cons : AreEach (IsConsumerOf v) is (length is) consumed) (prod : AreEach (IsProducerOf v) is (length is) produced) where
  abbrev g : Grammar
  g = grammar_in v

  abbrev all : List Item
  all = items g g.start (events_in v)

  abbrev item : ℕ → Item
  item k = item_in v (get_or is k no_item)

  abbrev via : ℕ → Instance
  via k = inst_at v.run.instances (via_of (get_or consumed k None))

  held : (k : ℕ) → k < length is → IsItemIn v (get_or is k no_item)
  held k h = items_are.each (get_or is k no_item) (at_in (get_or is k no_item) k is (is_at k is no_item h))

  at : (k : ℕ) → k < length is → IsAt (item k) k all
  at k h = subst (IsAt (item k) k) items_are.all (at_map (item_in v) (get_or is k no_item) k is (is_at k is no_item h))

  one : (j k : ℕ) → j < length is → k < length is → item j ≡ item k → j ≡ k
  one j k h l e = differ_at (item k) j k all (items_differ g safe.accepted.formed (events_in v) run.accepted.0) (subst (λ z. IsAt z j all) e (at j h)) (at k l)

  pub number : (t : Item) → IsIn t all → (k : ℕ) × (k < length is) × (item k ≡ t)
  number t h =
      let p = in_at t all h in
      let low : p.0 < length is = subst (λ n. p.0 < n) (sym (ap length items_are.all) ∙ length-map is (item_in v)) (at_below t p.0 all p.1) in
      (p.0, low, sym (at_is (item p.0) p.0 all t (at p.0 low)) ∙ at_is t p.0 all t p.1)

  pub consumed_there : (k : ℕ) (p : PortHeld) → get_or consumed k None ≡ Some p → IsConsumedAt v (get_or is k no_item) p
  consumed_there k p e = subst (IsConsumerOf v (get_or is k no_item)) e (cons.each k (subst (λ n. k < n) cons.count (some_below consumed k p e)))

  pub produced_there : (k : ℕ) (q : PortHeld) → get_or produced k None ≡ Some q → IsProducedAt v (get_or is k no_item) q
  produced_there k q e = subst (IsProducerOf v (get_or is k no_item)) e (prod.each k (subst (λ n. k < n) prod.count (some_below produced k q e)))

  pub output_low : (k : ℕ) (q : PortHeld) → get_or produced k None ≡ Some q → q.port.0 < 64
  output_low k q e =
      let h = (produced_there k q e).unopened in
      let few = (module_formed g v.run run safe.accepted.formed q.instance h.port.there).few_outputs in
      let low = subst (λ (s : Side). q.port.0 < length (side_names s (module_of g v.run q.instance))) h.side h.port.in_range in
      omega arith

  abbrev row : ℕ → List ℕ
  row = led_from v consumed produced

  made_row : (m w : ℕ) → IsIn w (made_behind produced m 0) → (w < length produced) × (q : PortHeld) × (get_or produced w None ≡ Some q) × (q.instance ≡ m)
  made_row m w h =
      let r = in_filter_from (λ k. is_made_at m (get_or produced k None)) w (numbers_from 0 (length produced - 0)) h in
      let low = in_numbers w 0 (length produced - 0) r.0 in
      let q = made_gives m (get_or produced w None) r.1 in
      (omega arith, q.0, q.1, q.2)

  row_gives : (k w : ℕ) → IsIn w (row k) → (p : PortHeld) × (get_or consumed k None ≡ Some p) × IsIn w (made_behind produced p.instance 0) × (is_joined v p (get_or produced w None) ≡ true)
  row_gives k w h = go (get_or consumed k None) refl h
    where
      go : (o : Option PortHeld) → get_or consumed k None ≡ o → IsIn w (led_to v produced o) → (p : PortHeld) × (get_or consumed k None ≡ Some p) × IsIn w (made_behind produced p.instance 0) × (is_joined v p (get_or produced w None) ≡ true)
      go None e i = absurd i
      go (Some p) e i = let r = in_filter_from (λ x. is_joined v p (get_or produced x None)) w (made_behind produced p.instance 0) i in (p, e, r.0, r.1)

  pub within : (first next : List ℕ) → length is < 2 ^ 32 → length first ≡ length v.run.instances → AreMadeFrom produced 0 first next → IsGraphInRange (length v.run.instances) consumed produced first next
  within first next few count made = record {
    few = subst (λ n. n < 2 ^ 32) (sym prod.count) few;
    count = count;
    inputs = λ k p e. (consumed_there k p e).unopened.port.there;
    outputs = output_low;
    made = made;
  }

  pub in_range : (k w : ℕ) → IsIn w (row k) → w < length is
  in_range k w h =
      let r = row_gives k w h in
      subst (λ n. w < n) prod.count (made_row r.0.instance w r.2).0

  row_rises : (k : ℕ) → IsRising (row k)
  row_rises k = go (get_or consumed k None) refl
    where
      go : (o : Option PortHeld) → get_or consumed k None ≡ o → IsRising (led_to v produced o)
      go None e = λ i j a b h p q. absurd p
      go (Some p) e =
          filter_rises (λ x. is_joined v p (get_or produced x None)) (made_behind produced p.instance 0) (numbers_rise (λ w. is_made_at p.instance (get_or produced w None)) 0 (length produced - 0))

  -- an item leads to those of its row
  sound : (k w : ℕ) → IsIn w (row k) → IsStepFrom g (view_in v) (full_in v) g.start (events_in v) (item k) (record { via = via k; item = item w })
  sound k w h =
      let r = row_gives k w h in
      let p = r.0 in
      let c = consumed_there k p r.1 in
      let m = made_row p.instance w r.2 in
      let d = produced_there w m.1 m.2 in
      let joined = sym (subst (λ o. is_joined v p o ≡ true) m.2 r.3) ∙ full_joins v run safe p m.1 c.unopened d.unopened m.3 in
      let led = (pair_tells v run p c.unopened (get_or is w no_item) d.port m.1 d.is d.unopened d.end m.3 d.shown true joined).0 refl in
      let step : StepHeld = record { via = p.instance; item = get_or is w no_item } in
      subst (λ n. IsStepFrom g (view_in v) (full_in v) g.start (events_in v) (item k) (record { via = inst_at v.run.instances n; item = item w })) (ap via_of (sym r.1))
      (led_goes v run (get_or is k no_item) step c.port p c.is c.unopened c.end refl (held w (in_range k w h)) led)

  -- and to no others
  complete : (k w : ℕ) (n : Instance) → k < length is → w < length is → IsShown v (get_or is k no_item) → IsStepFrom g (view_in v) (full_in v) g.start (events_in v) (item k) (record { via = n; item = item w }) → IsIn w (row k)
  complete k w n h l shown s = from (get_or consumed k None) refl (cons.each k h)
    where
      i : ItemHeld
      i = get_or is k no_item

      j : ItemHeld
      j = get_or is w no_item

      to : (p : PortHeld) → get_or consumed k None ≡ Some p → IsConsumedAt v i p → IsLedTo v p (item_in v j) → (o : Option PortHeld) → get_or produced w None ≡ o → IsProducerOf v j o → IsIn w (row k)
      to p e c led None q d = absurd (not_produced v run p c.unopened j (d s.visible) led)
      to p e c led (Some q) is_q d =
          let out = the_output v run p c.unopened j d.port q d.is d.unopened d.end led in
          let same = same_number v run q.instance p.instance d.unopened.port.there c.unopened.port.there (ap (λ (z : Instance). z.name) (sym out.0)) in
          let pairs = full_joins v run safe p q c.unopened d.unopened same in
          let pair = (pair_tells v run p c.unopened j d.port q d.is d.unopened d.end same s.visible (full_in v (inst_at v.run.instances p.instance).module_no p.port.0 q.port.0) pairs).1 led in
          let low : w < length produced = subst (λ m. w < m) (sym prod.count) l in
          let made_w = subst (λ o. is_made_at p.instance o ≡ true) (sym is_q) (eq-eqb q.instance p.instance same) in
          let there = in_filter (λ x. is_made_at p.instance (get_or produced x None)) w (numbers_from 0 (length produced - 0)) (numbers_in w 0 (length produced - 0) (omega arith) (omega arith)) made_w in
          subst (λ o. IsIn w (led_to v produced o)) (sym e)
          (in_filter (λ x. is_joined v p (get_or produced x None)) w (made_behind produced p.instance 0) there (subst (λ o. is_joined v p o ≡ true) (sym is_q) pair))

      from : (o : Option PortHeld) → get_or consumed k None ≡ o → IsConsumerOf v i o → IsIn w (row k)
      from None e c = absurd (none_is_some i.to (named_port (names_in v.run.instances)) s.through.from (c shown) s.through.consumed)
      from (Some p) e c =
          let x = s.through in
          let same = consumes_only v run c.port p c.unopened c.end i c.is n (record { seen = x.seen; not_open = x.not_open; from = x.from; i = x.i; consumed = x.consumed; entries = x.entries; input_there = x.input_there }) in
          let step : StepHeld = record { via = p.instance; item = j } in
          let goes = subst (λ z. IsStepFrom g (view_in v) (full_in v) g.start (events_in v) (item k) (record { via = z; item = item w })) same s in
          let led = goes_led v run i step c.port p c.is c.unopened c.end refl (held w l) goes in
          to p e c led (get_or produced w None) refl (prod.each w l)

  pub item_graph : IsItemGraph g (view_in v) (full_in v) g.start (events_in v) (length is) item via row
  item_graph = record {
    at = at;
    one = one;
    number = number;
    in_range = in_range;
    sound = λ k w h s i. sound k w i;
    complete = complete;
    rising = λ k w x i j l. rises_by_place (row k) (row_rises k) w x i j l;
  }

  -- the steps of a route are those of the run
  pub steps_there : (a b : ℕ) (ws : List ℕ) → IsRoute row a ws b → (s : StepHeld) → IsIn s (steps_held is consumed a ws) → IsStepIn v s
  steps_there a b [] r s h = absurd h
  steps_there a b (w ∷ ws) r s (inl e) =
      let x = row_gives a w r.0 in
      subst (IsStepIn v) (sym e) (record { via = subst (λ o. via_of o < length v.run.instances) (sym x.1) (consumed_there a x.0 x.1).unopened.port.there; item = held w (in_range a w r.0) })
  steps_there a b (w ∷ ws) r s (inr h) = steps_there w b ws r.1 s h

  pub steps_same : (a : ℕ) (ws : List ℕ) → steps_in v (steps_held is consumed a ws) ≡ steps_by via item a ws
  steps_same a [] = refl
  steps_same a (w ∷ ws) = ap (λ l. record { via = via a; item = item w } ∷ l) (steps_same w ws)

-- the numbers that a graph uses are in range
pub is_within : (instances : ℕ) (consumed produced : List (Option PortHeld)) (first next : List ℕ) → ∥ IsGraphInRange instances consumed produced first next ∥₁ → IsGraphInRange instances consumed produced first next
is_within instances consumed produced first next t = record {
  few = ∥∥₁_elim t (Prim.hlevel props) (λ h. h.few);
  count = ∥∥₁_elim t (Prim.hlevel props) (λ h. h.count);
  inputs = λ k p e. ∥∥₁_elim t (Prim.hlevel props) (λ h. h.inputs k p e);
  outputs = λ k q e. ∥∥₁_elim t (Prim.hlevel props) (λ h. h.outputs k q e);
  made = record {
    each = ∥∥₁_elim t (Prim.hlevel props) (λ h. h.made.each);
    firsts = λ m l. record {
      behind = ∥∥₁_elim t (Prim.hlevel props) (λ h. (h.made.firsts m l).behind);
      none = λ w a b. ∥∥₁_elim t (Prim.hlevel props) (λ h. (h.made.firsts m l).none w a b);
      made = λ a. ∥∥₁_elim t (Prim.hlevel props) (λ h. (h.made.firsts m l).made a);
    };
    nexts = λ x q a e. record {
      behind = ∥∥₁_elim t (Prim.hlevel props) (λ h. (h.made.nexts x q a e).behind);
      none = λ w b d. ∥∥₁_elim t (Prim.hlevel props) (λ h. (h.made.nexts x q a e).none w b d);
      made = λ b. ∥∥₁_elim t (Prim.hlevel props) (λ h. (h.made.nexts x q a e).made b);
    };
  };
}
