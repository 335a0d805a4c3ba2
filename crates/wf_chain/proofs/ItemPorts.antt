-- The ports at which a visible item is consumed and produced are those of seen instances.
use Rattle.std.proofs.Common.{◌≡◌, ◌≢◌, ℕ, ◌<◌, List, [], length, get_or, Some, refl, sym, ap, subst, ◌∙◌}
use Rattle.std.specs.Prelude.{option_map}
use Rattle.std.proofs.lemmas.Option.{same_Some}
use Rattle.wf_model.specs.declared.numbers.Side.TheVariants.{Input, Output}
use Rattle.wf_model.specs.Lists.{IsIn}
use Rattle.wf_model.specs.Grammar.{Grammar, module_at}
use Rattle.wf_model.specs.WellFormed.{IsWellFormed}
use Rattle.wf_model.specs.Reach.{Step, module_along, IsAlong}
use Rattle.wf_model.specs.Run.{Instance, root_of, seen_in}
use Rattle.wf_model.specs.Links.{Port, input, output}
use Rattle.wf_model.specs.Items.{items}
use Rattle.wf_laws.proofs.Address.{seen_law}
use Rattle.wf_laws.proofs.Depends.{items_law}
use Rattle.wf_flat.specs.declared.graph.Port.{Port as PortHeld}
use Rattle.wf_flat.specs.declared.item.Item.{Item as ItemHeld}
use Rattle.wf_flat.specs.Table.{IsTableOf, names_in}
use Rattle.wf_flat.specs.Graph.{inst_at, named_port}
use Rattle.wf_chain.specs.HeldItems.{side_names, module_of}
use Rattle.wf_chain.specs.ViewedRuns.{ViewedRunValue, grammar_in, view_in, events_in, item_in, IsVisibleIn}
use Rattle.wf_chain.specs.Steps.{IsSeenPort, port_in}
use Rattle.wf_chain.proofs.Opening.{seen_is}

module _ (v : ViewedRunValue) (run : IsTableOf (grammar_in v) v.run) (wf : IsWellFormed (grammar_in v)) (i : ItemHeld) (h : IsVisibleIn v i) (p : PortHeld) (there : p.instance < length v.run.instances) where
  abbrev g : Grammar
  g = grammar_in v

  started : events_in v ≢ []
  started q = subst (λ z. IsIn (item_in v i) (items g g.start z)) q h.held.there

  -- the instance of an address at which the port is
  at_address : (a : List Step) (n : List ℕ) → IsAlong g (view_in v) (events_in v) (root_of (events_in v)) a n → get_or (names_in v.run.instances) p.instance [] ≡ n →
      IsIn (record { name = n; module_no = module_along g g.start a }) (seen_in g (view_in v) g.start (events_in v)) × (◌≡◌ {A = Instance} (record { name = n; module_no = module_along g g.start a }) (inst_at v.run.instances p.instance))
  at_address a n along e =
      let s = (seen_law g (view_in v) g.start (events_in v) (record { name = n; module_no = module_along g g.start a }) run.accepted.0 started).1 (a, along, refl) in
      (s, seen_is g (view_in v) v.run run p.instance there (record { name = n; module_no = module_along g g.start a }) s (sym e))

  pub consumer_seen : i.to ≡ Some p → IsSeenPort v p × (p.side ≡ Input)
  consumer_seen e =
      let c = (items_law g (view_in v) wf g.start (events_in v) run.accepted.0 started (item_in v i) h.held.there h.visible).consumed (port_in v p) (ap (option_map (named_port (names_in v.run.instances))) e) in
      let is : port_in v p ≡ input c.2.instance c.1 = same_Some (port_in v p) (input c.2.instance c.1) (sym (ap (option_map (named_port (names_in v.run.instances))) e) ∙ c.2.port) in
      let n = at_address c.0 c.2.instance c.2.along (ap (λ (z : Port (List ℕ)). z.owner) is) in
      let side : p.side ≡ Input = ap (λ (z : Port (List ℕ)). z.side) is in
      let number : p.port.0 ≡ c.1 = ap (λ (z : Port (List ℕ)). z.number) is in (
        record {
          there = there;
          seen = subst (λ z. IsIn z (seen_in g (view_in v) g.start (events_in v))) n.1 n.0;
          in_range = subst (λ s. p.port.0 < length (side_names s (module_of g v.run p.instance))) (sym side) (subst (λ k. k < length (module_of g v.run p.instance).inputs) (sym number) (subst (λ (z : Instance). c.1 < length (module_at g z.module_no).inputs) n.1 c.2.in_range));
        },
        side,
      )

  pub producer_seen : i.from ≡ Some p → IsSeenPort v p × (p.side ≡ Output)
  producer_seen e =
      let c = (items_law g (view_in v) wf g.start (events_in v) run.accepted.0 started (item_in v i) h.held.there h.visible).produced (port_in v p) (ap (option_map (named_port (names_in v.run.instances))) e) in
      let is : port_in v p ≡ output c.2.instance c.1 = same_Some (port_in v p) (output c.2.instance c.1) (sym (ap (option_map (named_port (names_in v.run.instances))) e) ∙ c.2.port) in
      let n = at_address c.0 c.2.instance c.2.along (ap (λ (z : Port (List ℕ)). z.owner) is) in
      let side : p.side ≡ Output = ap (λ (z : Port (List ℕ)). z.side) is in
      let number : p.port.0 ≡ c.1 = ap (λ (z : Port (List ℕ)). z.number) is in (
        record {
          there = there;
          seen = subst (λ z. IsIn z (seen_in g (view_in v) g.start (events_in v))) n.1 n.0;
          in_range = subst (λ s. p.port.0 < length (side_names s (module_of g v.run p.instance))) (sym side) (subst (λ k. k < length (module_of g v.run p.instance).outputs) (sym number) (subst (λ (z : Instance). c.1 < length (module_at g z.module_no).outputs) n.1 c.2.in_range));
        },
        side,
      )
