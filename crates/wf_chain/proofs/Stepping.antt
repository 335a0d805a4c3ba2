-- The innermost ports at which two items are consumed and produced tell whether the one leads to the other.
use Rattle.std.proofs.Common.{◌≡◌, ℕ, ◌<◌, Bool, false, List, length, get_or, Option, Some, None, refl, sym, ap, subst, ◌∙◌, true≢false}
use Rattle.std.specs.Prelude.{◌↔◌, IsTrue, option_map}
use Rattle.std.proofs.lemmas.Option.{same_Some}
use Rattle.wf_model.specs.declared.numbers.Side.{Side}
use Rattle.wf_model.specs.declared.numbers.Side.TheVariants.{Input, Output}
use Rattle.wf_model.specs.Lists.{IsIn, IsAt, Walk}
use Rattle.wf_model.specs.Grammar.{Grammar}
use Rattle.wf_model.specs.View.{View}
use Rattle.wf_model.specs.declared.event.Event.{Event}
use Rattle.wf_model.specs.Run.{Instance, IsOpen, seen_in}
use Rattle.wf_model.specs.Links.{Port, input, output}
use Rattle.wf_model.specs.Items.{IsVisible}
use Rattle.wf_model.proofs.Lists.{is_at, differ_at}
use Rattle.wf_model.proofs.Mapping.{at_map}
use Rattle.chain_model.specs.Chains.{IsEntry, IsExit, LeadsThrough, unopened_pairs}
use Rattle.chain_model.proofs.OneInstance.{one_end, turned, entry_once, exit_once, no_entry, no_exit}
use Rattle.wf_flat.specs.declared.table.Inst.{Inst}
use Rattle.wf_flat.specs.declared.graph.Port.{Port as PortHeld}
use Rattle.wf_flat.specs.declared.item.Item.{Item as ItemHeld}
use Rattle.wf_flat.specs.Table.{IsTableOf, names_in, no_instance}
use Rattle.wf_flat.specs.Graph.{inst_at, named_port}
use Rattle.wf_flat.proofs.SeenNumbers.{all_differ, name_at}
use Rattle.wf_chain.specs.declared.chain.ChainStep.{ChainStep as StepHeld}
use Rattle.wf_chain.specs.HeldItems.{side_names, module_of}
use Rattle.wf_chain.specs.ViewedRuns.{ViewedRunValue, grammar_in, view_in, full_in, events_in, item_in, IsItemIn}
use Rattle.wf_chain.specs.Steps.{IsInnerEnd, IsEndOf, IsUnopened, LeadsInward, ConsumesIn, IsLedTo, GoesOn, port_in}
use Rattle.wf_chain.proofs.Opening.{seen_is}

-- the ends of ports that may not be there
pub end_none : (v : ViewedRunValue) (o : Option PortHeld) → IsEndOf v o None → o ≡ None
end_none v None h = refl
end_none v (Some p) h = absurd h

pub end_some : (v : ViewedRunValue) (o : Option PortHeld) (q : PortHeld) → IsEndOf v o (Some q) → (p : PortHeld) × (o ≡ Some p) × IsInnerEnd v p q
end_some v None q h = absurd h
end_some v (Some p) q h = (p, refl, h)

-- a test that fails tells of what is not so
pub never : {P : Type 0} → (P → ⊥) → IsTrue false ↔ P
never lacks = ((λ h. absurd (true≢false (sym h))), (λ p. absurd (lacks p)))

pub none_is_some : {A B : Type 0} (o : Option A) (f : A → B) (y : B) → o ≡ None → option_map f o ≡ Some y → ⊥
none_is_some o f y e h = let z = sym (ap (option_map f) e) ∙ h in absurd (cc)

module _ (v : ViewedRunValue) (run : IsTableOf (grammar_in v) v.run) where
  abbrev g : Grammar
  g = grammar_in v

  abbrev u : View
  u = view_in v

  abbrev es : List Event
  es = events_in v

  abbrev xs : List Inst
  xs = v.run.instances

  abbrev naming : Option PortHeld → Option (Port (List ℕ))
  naming = option_map (named_port (names_in xs))

  -- instances of one name have one number
  pub same_number : (j k : ℕ) → j < length xs → k < length xs → (inst_at xs j).name ≡ (inst_at xs k).name → j ≡ k
  same_number j k h l e =
      differ_at (inst_at xs k).name j k (names_in xs) (all_differ g v.run run)
      (subst (λ z. IsAt z j (names_in xs)) e (at_map (λ (x : Inst). x.name) (get_or xs j no_instance) j xs (is_at j xs no_instance h)))
      (at_map (λ (x : Inst). x.name) (get_or xs k no_instance) k xs (is_at k xs no_instance l))

  port_is : (s : Side) (q : PortHeld) → q.instance < length xs → q.side ≡ s → ◌≡◌ {A = Port (List ℕ)} (port_in v q) (record { owner = (inst_at xs q.instance).name; side = s; number = q.port.0 })
  port_is s q there e = λ z. record { owner = name_at g v.run run q.instance there z; side = e z; number = q.port.0 }

  -- the instance and the number of a port that is innermost, from a port with a name and a number
  port_same : (s : Side) (q : PortHeld) → IsUnopened v s q → (n : Instance) → IsIn n (seen_in g u g.start es) → (i : ℕ) → ◌≡◌ {A = Port (List ℕ)} (record { owner = n.name; side = s; number = i }) (port_in v q) →
      (n ≡ inst_at xs q.instance) × (i ≡ q.port.0)
  port_same s q h n seen i e = (seen_is g u v.run run q.instance h.port.there n seen (ap (λ (z : Port (List ℕ)). z.owner) e), ap (λ (z : Port (List ℕ)). z.number) e)

  -- an item that leads to an input by entries leads to the innermost port alone
  module _ (p q : PortHeld) (h : IsUnopened v Input q) (end : IsInnerEnd v p q) where
    way_in : Walk (IsEntry g u g.start es) (port_in v p) (input (inst_at xs q.instance).name q.port.0)
    way_in = subst (λ z. Walk (IsEntry g u g.start es) (port_in v p) z) (port_is Input q h.port.there h.side) (subst (λ s. LeadsInward v s p q) (sym end.side ∙ h.side) end.inward)

    input_there : q.port.0 < length (module_of g v.run q.instance).inputs
    input_there = subst (λ s. q.port.0 < length (side_names s (module_of g v.run q.instance))) h.side h.port.in_range

    pub consumes_from : (i : ItemHeld) → i.to ≡ Some p → (k : ℕ) → q.instance ≡ k → ConsumesIn v (item_in v i) (inst_at xs k)
    consumes_from i e k same =
        subst (λ z. ConsumesIn v (item_in v i) (inst_at xs z)) same
        (record { seen = h.port.seen; not_open = h.not_open; from = port_in v p; i = q.port.0; consumed = ap naming e; entries = way_in; input_there = input_there })

    pub one_input : (n : Instance) → IsIn n (seen_in g u g.start es) → ¬ IsOpen g u g.start es n → (i : ℕ) → Walk (IsEntry g u g.start es) (port_in v p) (input n.name i) → (n ≡ inst_at xs q.instance) × (i ≡ q.port.0)
    one_input n seen not i w =
        port_same Input q h n seen i
        (one_end (entry_once g u g.start es run.accepted.0) (no_entry g u g.start es run.accepted.0 n seen not i) (no_entry g u g.start es run.accepted.0 (inst_at xs q.instance) h.port.seen h.not_open q.port.0) w way_in
        ∙ sym (port_is Input q h.port.there h.side))

    pub consumes_only : (i : ItemHeld) → i.to ≡ Some p → (n : Instance) → ConsumesIn v (item_in v i) n → (n ≡ inst_at xs q.instance)
    consumes_only i e n c =
        let from : c.from ≡ port_in v p = same_Some c.from (port_in v p) (sym c.consumed ∙ ap naming e) in
        (one_input n c.seen c.not_open c.i (subst (λ z. Walk (IsEntry g u g.start es) z (input n.name c.i)) from c.entries)).0

  -- an item to which an output leads by exits is led to from the innermost port alone
  module _ (p q : PortHeld) (h : IsUnopened v Output q) (end : IsInnerEnd v p q) where
    way_out : Walk (IsExit g u g.start es) (output (inst_at xs q.instance).name q.port.0) (port_in v p)
    way_out = subst (λ z. Walk (IsExit g u g.start es) z (port_in v p)) (port_is Output q h.port.there h.side) (subst (λ s. LeadsInward v s p q) (sym end.side ∙ h.side) end.inward)

    pub one_output : (n : Instance) → IsIn n (seen_in g u g.start es) → ¬ IsOpen g u g.start es n → (o : ℕ) → Walk (IsExit g u g.start es) (output n.name o) (port_in v p) → (n ≡ inst_at xs q.instance) × (o ≡ q.port.0)
    one_output n seen not o w =
        port_same Output q h n seen o
        (one_end {R = λ a b. IsExit g u g.start es b a} (exit_once g u g.start es run.accepted.0) (no_exit g u g.start es run.accepted.0 n seen not o) (no_exit g u g.start es run.accepted.0 (inst_at xs q.instance) h.port.seen h.not_open q.port.0) (turned w) (turned way_out)
        ∙ sym (port_is Output q h.port.there h.side))

  -- whether an input leads to an item
  module _ (r : PortHeld) (input_at : IsUnopened v Input r) (j : ItemHeld) where
    abbrev n : Instance
    n = inst_at xs r.instance

    pub not_visible : (IsVisible g u g.start es (item_in v j) → ⊥) → IsLedTo v r (item_in v j) → ⊥
    not_visible hidden h = hidden h.visible

    pub not_produced : j.from ≡ None → IsLedTo v r (item_in v j) → ⊥
    not_produced e h = none_is_some j.from (named_port (names_in xs)) h.to e h.produced

    module _ (p q : PortHeld) (from : j.from ≡ Some p) (output_at : IsUnopened v Output q) (end : IsInnerEnd v p q) where
      pub the_output : (h : IsLedTo v r (item_in v j)) → (n ≡ inst_at xs q.instance) × (h.o ≡ q.port.0)
      the_output h =
          let to : h.to ≡ port_in v p = same_Some h.to (port_in v p) (sym h.produced ∙ ap naming from) in
          one_output p q output_at end n input_at.port.seen input_at.not_open h.o (subst (λ z. Walk (IsExit g u g.start es) (output n.name h.o) z) to h.exits)

      pub other_instance : (q.instance ≡ r.instance → ⊥) → IsLedTo v r (item_in v j) → ⊥
      other_instance apart h = apart (same_number q.instance r.instance output_at.port.there input_at.port.there (ap (λ (z : Instance). z.name) (sym (the_output h).0)))

      pub pair_tells : q.instance ≡ r.instance → IsVisible g u g.start es (item_in v j) → (b : Bool) → b ≡ unopened_pairs u (full_in v) n.module_no r.port.0 q.port.0 → IsTrue b ↔ IsLedTo v r (item_in v j)
      pair_tells same visible b e = (
        (λ t. record {
          visible = visible;
          to = port_in v p;
          o = q.port.0;
          output_there = subst (λ k. q.port.0 < length (module_of g v.run k).outputs) same (subst (λ s. q.port.0 < length (side_names s (module_of g v.run q.instance))) output_at.side output_at.port.in_range);
          pair = subst IsTrue e t;
          exits = subst (λ k. Walk (IsExit g u g.start es) (output (inst_at xs k).name q.port.0) (port_in v p)) same (way_out p q output_at end);
          produced = ap naming from;
        }),
        (λ h. subst IsTrue (sym e) (subst (λ o. IsTrue (unopened_pairs u (full_in v) n.module_no r.port.0 o)) (the_output h).1 h.pair)),
      )

  -- an output of the root is consumed nowhere
  pub not_consumed : (i : ItemHeld) (n : Instance) → i.to ≡ None → ConsumesIn v (item_in v i) n → ⊥
  not_consumed i n e c = none_is_some i.to (named_port (names_in xs)) c.from e c.consumed

  -- a step from an item goes on exactly if its instance consumes the item, and the input leads to the next
  module _ (i : ItemHeld) (s : StepHeld) (p q : PortHeld) (to : i.to ≡ Some p) (input_at : IsUnopened v Input q) (end : IsInnerEnd v p q) (via : q.instance ≡ s.via) (there : IsItemIn v s.item) where
    pub led_goes : IsLedTo v q (item_in v s.item) → GoesOn v i s
    led_goes h = record {
      there = there.there;
      visible = h.visible;
      through = subst (λ k. LeadsThrough g u (full_in v) g.start es (item_in v i) (inst_at xs k) (item_in v s.item)) via
          (record {
            seen = input_at.port.seen;
            not_open = input_at.not_open;
            from = port_in v p;
            to = h.to;
            i = q.port.0;
            o = h.o;
            consumed = ap naming to;
            entries = way_in p q input_at end;
            input_there = input_there p q input_at end;
            output_there = h.output_there;
            pair = h.pair;
            exits = h.exits;
            produced = h.produced;
          });
    }

    pub goes_led : GoesOn v i s → IsLedTo v q (item_in v s.item)
    goes_led w =
        let h = subst (λ k. LeadsThrough g u (full_in v) g.start es (item_in v i) (inst_at xs k) (item_in v s.item)) (sym via) w.through in
        let from : h.from ≡ port_in v p = same_Some h.from (port_in v p) (sym h.consumed ∙ ap naming to) in
        let one = one_input p q input_at end (inst_at xs q.instance) h.seen h.not_open h.i (subst (λ z. Walk (IsEntry g u g.start es) z (input (inst_at xs q.instance).name h.i)) from h.entries) in
        record {
          visible = w.visible;
          to = h.to;
          o = h.o;
          output_there = h.output_there;
          pair = subst (λ k. IsTrue (unopened_pairs u (full_in v) (inst_at xs q.instance).module_no k h.o)) one.1 h.pair;
          exits = h.exits;
          produced = h.produced;
        }
