-- Chains of items are the same by each full assignment of a view.
use Rattle.std.proofs.Common.{◌≡◌, ℕ, ◌<◌, cond, IsTrue, List, [], ◌∷◌, refl, subst}
use Rattle.std.specs.Cmp.Derive.{one_truth}
use Rattle.wf_model.specs.Grammar.{Grammar, Assignment, inputs_of, outputs_of}
use Rattle.wf_model.specs.Proper.{IsProper}
use Rattle.wf_model.specs.View.{View, expands, shows, IsSeenModule}
use Rattle.wf_model.specs.declared.event.Event.{Event}
use Rattle.wf_model.specs.declared.event.Event.TheVariants.{Start}
use Rattle.wf_model.specs.Run.{Instance, IsRun}
use Rattle.wf_model.specs.Items.{Item}
use Rattle.wf_model.specs.Safe.{IsExpansion, IsFull}
use Rattle.wf_model.specs.Finishing.{ExpandsComposites}
use Rattle.wf_laws.proofs.Growth.{finishing}
use Rattle.wf_laws.proofs.Making.{first_name, first_is_name}
use Rattle.chain_model.specs.Chains.{unopened_pairs, LeadsThrough, ChainStep, IsStepFrom, StepsLead, IsItemChain}
use Rattle.chain_model.specs.Shortest.{IsFirstShortestChain}
use Rattle.chain_model.proofs.ChainLaws.{seen_module}

module _ (g : Grammar) (u : View) (proper : IsProper g) (composites : ExpandsComposites g u) where
  module _ (d b : Assignment) (of_d : IsFull g u d) (of_b : IsFull g u b) where
    module _ (events : List Event) (run : IsRun g g.start events) where
      pub through_same : (x y : Item) (n : Instance) → LeadsThrough g u d g.start events x n y → LeadsThrough g u b g.start events x n y
      through_same x y n h =
          let m = n.module_no in
          let seen = seen_module g u events run n h.seen in
          let r = finishing g u proper composites m (Start first_name ∷ []) ((refl, first_is_name), tt) in
          let e : IsExpansion g u m (Start first_name ∷ r.0) = record { run = r.1.run; started = λ q. (cc); finished = r.1.finished } in
          let p = of_d m seen (Start first_name ∷ r.0) e h.i h.o h.input_there h.output_there in
          let q = of_b m seen (Start first_name ∷ r.0) e h.i h.o h.input_there h.output_there in
          let same = one_truth (d m h.i h.o) (b m h.i h.o) (λ t. q.1 (p.0 t)) (λ t. p.1 (q.0 t)) in
          record {
            seen = h.seen;
            not_open = h.not_open;
            from = h.from;
            to = h.to;
            i = h.i;
            o = h.o;
            consumed = h.consumed;
            entries = h.entries;
            input_there = h.input_there;
            output_there = h.output_there;
            pair = subst (λ t. IsTrue (cond (expands u n.module_no) t (shows u n.module_no h.i h.o))) same h.pair;
            exits = h.exits;
            produced = h.produced;
          }

      pub step_same : (x : Item) (s : ChainStep) → IsStepFrom g u d g.start events x s → IsStepFrom g u b g.start events x s
      step_same x s h = record { there = h.there; visible = h.visible; through = through_same x s.item s.via h.through }

      pub steps_same : (x y : Item) (steps : List ChainStep) → StepsLead g u d g.start events x steps y → StepsLead g u b g.start events x steps y
      steps_same x y [] h = h
      steps_same x y (s ∷ steps) h = (step_same x s h.0, steps_same s.item y steps h.1)

      pub chain_same : (x y : Item) (steps : List ChainStep) → IsItemChain g u d g.start events x steps y → IsItemChain g u b g.start events x steps y
      chain_same x y steps h = record { there = h.there; visible = h.visible; some = h.some; steps_lead = steps_same x y steps h.steps_lead }

  module _ (d b : Assignment) (of_d : IsFull g u d) (of_b : IsFull g u b) (events : List Event) (run : IsRun g g.start events) where
    -- so is the first of the shortest
    pub first_shortest_same : (x y : Item) (steps : List ChainStep) → IsFirstShortestChain g u d g.start events x steps y → IsFirstShortestChain g u b g.start events x steps y
    first_shortest_same x y steps h = record {
      chain = chain_same d b of_d of_b events run x y steps h.chain;
      fewest = λ others c. h.fewest others (chain_same b d of_b of_d events run x y others c);
      first = λ others c same. h.first others (chain_same b d of_b of_d events run x y others c) same;
    }
