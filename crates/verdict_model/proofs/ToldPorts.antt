-- Where the item of a label that is not hidden is consumed and produced in a run, and that this is what the label tells.
use Rattle.std.proofs.Common.{◌≡◌, ◌⊎◌, ℕ, ◌+◌, ◌<◌, List, [], length, get_or, Some, None, refl, sym, ap, ◌∙◌, subst, inl, inr, arith}
use Rattle.wf_model.specs.Lists.{IsIn, IsAt}
use Rattle.wf_model.specs.Grammar.{Grammar, Edge, production_at, module_at, body_of, inputs_of, outputs_of}
use Rattle.wf_model.specs.WellFormed.{IsWellFormed, IsInnerInput, IsInnerOutput}
use Rattle.wf_model.specs.View.{View, expands}
use Rattle.wf_model.specs.declared.event.Event.{Event}
use Rattle.wf_model.specs.Run.{IsRun, root_of}
use Rattle.wf_model.specs.Links.{input, output}
use Rattle.wf_model.specs.Items.{Item}
use Rattle.wf_model.specs.Reach.{Step, IsAlong}
use Rattle.wf_model.specs.Depends.{IsConsumedAt, IsProducedAt}
use Rattle.wf_model.proofs.Lists.{at_below, at_is, at_in}
use Rattle.wf_model.proofs.Level.{opening}
use Rattle.wf_laws.proofs.Address.{along_more, module_along_more}
use Rattle.label_model.specs.Labels.{Label, Input, Output, OfEdge}
use Rattle.label_model.specs.RunLabels.{address_in, labelled}
use Rattle.label_model.proofs.ItemLabels.{IsKind, an_input, an_output, of_edge, kind, no_item}
use Rattle.verdict_model.specs.Telling.{Tells, ConsumedAt, ProducedAt}
use Rattle.verdict_model.specs.Verdicts.{IsHidden}
use Rattle.verdict_model.proofs.LabelsTold.{IsMadeAt, made_at, told_there, input_untold, output_untold}
use Rattle.verdict_model.proofs.RootPorts.{input_item_at, output_item_at}
use Rattle.verdict_model.proofs.Hiding.{AllExpanded, along_open, shown_expanded}
use Rattle.verdict_model.proofs.Clashing.{child_of}

-- an item is consumed and produced where the edge that makes it leads and begins
record IsBetweenChildren (g : Grammar) (u : View) (events : List Event) (t : Item) (a : List Step) (p : ℕ) (x : Edge) : Type 0 where
  consumed : IsConsumedAt g u g.start events t (child_of a p x.to.position) x.to.port
  produced : IsProducedAt g u g.start events t (child_of a p x.from.position) x.from.port

module _ (g : Grammar) (wf : IsWellFormed g) (u : View) (events : List Event) (run : IsRun g g.start events) (t : Item) where
  -- so it is where each instance on the way is open
  open_item : (a : List Step) (p e : ℕ) → (m : IsMadeAt g events t a p e) → AllExpanded g u g.start a → IsBetweenChildren g u events t a p m.edge
  open_item a p e m all = record {
    consumed = record {
      instance = get_or m.names x.to.position [];
      along = child x.to.position (at_below to.0 x.to.position (body_of g p) to.1);
      port = ap (λ (z : Item). z.consumed) m.same;
      in_range = subst (λ z. x.to.port < inputs_of g z) (sym (module_along_more g g.start a (record { production = p; position = x.to.position }) ∙ at_is to.0 x.to.position (body_of g p) 0 to.1)) to.2;
    };
    produced = record {
      instance = get_or m.names x.from.position [];
      along = child x.from.position (at_below from.0 x.from.position (body_of g p) from.1);
      port = ap (λ (z : Item). z.produced) m.same;
      in_range = subst (λ z. x.from.port < outputs_of g z) (sym (module_along_more g g.start a (record { production = p; position = x.from.position }) ∙ at_is from.0 x.from.position (body_of g p) 0 from.1)) from.2;
    };
  }
    where
      x : Edge
      x = m.edge

      to : IsInnerInput g p m.edge.to
      to = (wf.bodies p m.ends.of_it.0).edges_to m.edge (at_in m.edge e (production_at g p).edges m.number)

      from : IsInnerOutput g p m.edge.from
      from = (wf.bodies p m.ends.of_it.0).edges_from m.edge (at_in m.edge e (production_at g p).edges m.number)

      child : (k : ℕ) → k < length (body_of g p) → IsAlong g u events (root_of events) (child_of a p k) (get_or m.names k [])
      child k small =
          let al = along_open g u events g.start a (root_of events) m.instance all.0 m.address in
          let o = opening g g.start [] events m.instance (record { production = p; names = m.names }) run m.expanded in
          along_more g u events a (root_of events) m.instance (record { production = p; position = k }) m.names al m.expanded
          (let w : k < length m.names = omega (arith, o.one_each, small) in w) (ap (expands u) m.ends.of_it.1 ∙ all.1)

  module _ (l : Label) (h : IsIn (t, l) (labelled g events)) (shown : IsHidden g u l → ⊥) where
    told_item : (a : List Step) (p e : ℕ) (x : Edge) → Tells g l a p e → IsAt x e (production_at g p).edges → IsBetweenChildren g u events t a p x
    told_item a p e x tells at =
        let m = made_at g events run t l wf h a p e tells in
        let edges = (production_at g p).edges in
        let same : m.edge ≡ x = sym (at_is m.edge e edges x m.number) ∙ at_is x e edges x at in
        subst (IsBetweenChildren g u events t a p) same (open_item a p e m (shown_expanded g wf u l a p e tells shown))

-- what the label tells is so in the run
module _ (g : Grammar) (wf : IsWellFormed g) (u : View) (events : List Event) (run : IsRun g g.start events) (t : Item) where
  pub consumed_told : (l : Label) → IsIn (t, l) (labelled g events) → (IsHidden g u l → ⊥) → (a : List Step) (i : ℕ) → ConsumedAt g l a i → IsConsumedAt g u g.start events t a i
  consumed_told (OfEdge q) h shown a i c =
      let r = (told_item g wf u events run t (OfEdge q) h shown c.0 c.1 c.2 c.3 c.4 c.5).consumed in
      subst (IsConsumedAt g u g.start events t a) (sym c.7) (subst (λ z. IsConsumedAt g u g.start events t z c.3.to.port) (sym c.6) r)
  consumed_told (Output k) h shown a i c = absurd c
  consumed_told (Input k) h shown a i c = go (kind g events run t (Input k) h)
    where
      go : IsKind g events t (Input k) → IsConsumedAt g u g.start events t a i
      go (an_input j small x y) =
          let n : k ≡ j = cc in
          let r = input_item_at (root_of events) 0 (module_at g g.start).inputs j no_item small in
          let z : 0 + j ≡ i = omega (arith, n, c.1) in
          subst (λ w. IsConsumedAt g u g.start events t w i) (sym c.0)
          (record { instance = root_of events; along = refl; port = ap (λ (v : Item). v.consumed) x ∙ (r.consumed ∙ ap (λ v. Some (input (root_of events) v)) z); in_range = let w : i < inputs_of g g.start = omega (arith, small, z) in w })
      go (an_output j small x y) = absurd (cc)
      go (of_edge j p names here x) = absurd (input_untold g k _ _ _ (told_there g events run t (Input k) j p names here x))

  pub produced_told : (l : Label) → IsIn (t, l) (labelled g events) → (IsHidden g u l → ⊥) → (a : List Step) (o : ℕ) → ProducedAt g l a o → IsProducedAt g u g.start events t a o
  produced_told (OfEdge q) h shown a o c =
      let r = (told_item g wf u events run t (OfEdge q) h shown c.0 c.1 c.2 c.3 c.4 c.5).produced in
      subst (IsProducedAt g u g.start events t a) (sym c.7) (subst (λ z. IsProducedAt g u g.start events t z c.3.from.port) (sym c.6) r)
  produced_told (Input k) h shown a o c = absurd c
  produced_told (Output k) h shown a o c = go (kind g events run t (Output k) h)
    where
      go : IsKind g events t (Output k) → IsProducedAt g u g.start events t a o
      go (an_output j small x y) =
          let n : k ≡ j = cc in
          let r = output_item_at (root_of events) 0 (module_at g g.start).outputs j no_item small in
          let z : 0 + j ≡ o = omega (arith, n, c.1) in
          subst (λ w. IsProducedAt g u g.start events t w o) (sym c.0)
          (record { instance = root_of events; along = refl; port = ap (λ (v : Item). v.produced) x ∙ (r.produced ∙ ap (λ v. Some (output (root_of events) v)) z); in_range = let w : o < outputs_of g g.start = omega (arith, small, z) in w })
      go (an_input j small x y) = absurd (cc)
      go (of_edge j p names here x) = absurd (output_untold g k _ _ _ (told_there g events run t (Output k) j p names here x))

module _ (g : Grammar) (events : List Event) (run : IsRun g g.start events) (t : Item) (l : Label) (h : IsIn (t, l) (labelled g events)) where
  -- each label tells where its item is consumed, but for outputs of the root
  pub consumed_or_none : ((a : List Step) × (i : ℕ) × ConsumedAt g l a i) ⊎ (t.consumed ≡ None)
  consumed_or_none = go (kind g events run t l h)
    where
      go : IsKind g events t l → ((a : List Step) × (i : ℕ) × ConsumedAt g l a i) ⊎ (t.consumed ≡ None)
      go (an_input k small x y) = inl ([], k, subst (λ z. ConsumedAt g z [] k) (sym y) (refl, refl))
      go (an_output k small x y) = inr (ap (λ (z : Item). z.consumed) x ∙ (output_item_at (root_of events) 0 (module_at g g.start).outputs k no_item small).consumed)
      go (of_edge i p names here x) =
          let a = address_in events i in
          let tells = subst (λ z. Tells g z a p x.edge_no) x.label_is (told_there g events run t l i p names here x) in
          inl (child_of a p x.edge.to.position, x.edge.to.port, subst (λ z. ConsumedAt g z (child_of a p x.edge.to.position) x.edge.to.port) (sym x.label_is) (a, p, x.edge_no, x.edge, tells, x.at, refl, refl))

  -- and where it is produced, but for inputs of the root
  pub produced_or_none : ((a : List Step) × (o : ℕ) × ProducedAt g l a o) ⊎ (t.produced ≡ None)
  produced_or_none = go (kind g events run t l h)
    where
      go : IsKind g events t l → ((a : List Step) × (o : ℕ) × ProducedAt g l a o) ⊎ (t.produced ≡ None)
      go (an_output k small x y) = inl ([], k, subst (λ z. ProducedAt g z [] k) (sym y) (refl, refl))
      go (an_input k small x y) = inr (ap (λ (z : Item). z.produced) x ∙ (input_item_at (root_of events) 0 (module_at g g.start).inputs k no_item small).produced)
      go (of_edge i p names here x) =
          let a = address_in events i in
          let tells = subst (λ z. Tells g z a p x.edge_no) x.label_is (told_there g events run t l i p names here x) in
          inl (child_of a p x.edge.from.position, x.edge.from.port, subst (λ z. ProducedAt g z (child_of a p x.edge.from.position) x.edge.from.port) (sym x.label_is) (a, p, x.edge_no, x.edge, tells, x.at, refl, refl))
