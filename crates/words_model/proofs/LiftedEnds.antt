-- Where labels in a state are consumed and produced, and that a run has this, finished.
use Rattle.std.proofs.Common.{◌≡◌, ◌⊎◌, ℕ, ◌<◌, List, [], ◌++◌, refl, ap, inl, inr}
use Rattle.wf_model.specs.Grammar.{Grammar, production_at}
use Rattle.wf_model.specs.WellFormed.{IsWellFormed}
use Rattle.wf_model.specs.View.{View}
use Rattle.wf_model.specs.declared.event.Event.{Event}
use Rattle.wf_model.specs.Safe.{IsExpansion}
use Rattle.wf_model.specs.Items.{Item}
use Rattle.wf_model.specs.Reach.{Step}
use Rattle.wf_model.specs.Depends.{IsConsumedAt, IsProducedAt}
use Rattle.wf_model.proofs.Positions.{at_there}
use Rattle.wf_laws.proofs.Reach.{more_started}
use Rattle.label_model.specs.Labels.{Label, Input, Output, OfEdge, IsLabel}
use Rattle.label_model.proofs.ItemLabels.{label_started}
use Rattle.verdict_model.specs.Telling.{ConsumedAt, ProducedAt}
use Rattle.verdict_model.specs.Verdicts.{AreShown, HasBoth}
use Rattle.verdict_model.proofs.LabelsTold.{telling_law}
use Rattle.verdict_model.proofs.Keeping.{kept_law}
use Rattle.verdict_model.proofs.ToldPorts.{consumed_told, produced_told}
use Rattle.words_model.specs.Lifting.{in_state, lift_edge, lift, lift_label}
use Rattle.words_model.proofs.LiftedLabels.{edge_at}
use Rattle.words_model.proofs.LiftedTelling.{tells_in}

-- the end of a label in a state is its end, with the port in the state
module _ (g : Grammar) (k s : ℕ) (hs : s < k) where
  pub consumed_in : (l : Label) (a : List Step) (i : ℕ) → ConsumedAt g l a i → ConsumedAt (lift g k) (lift_label k s l) a (in_state k s i)
  consumed_in (Input p) a i c = (c.0, ap (in_state k s) c.1)
  consumed_in (Output p) a i c = absurd c
  consumed_in (OfEdge q) a i c = (c.0, c.1, in_state k s c.2, lift_edge k s c.3, tells_in g k s hs (OfEdge q) c.0 c.1 c.2 c.4, edge_at g k c.1 s c.2 c.3 hs c.5, c.6, ap (in_state k s) c.7)

  pub produced_in : (l : Label) (a : List Step) (o : ℕ) → ProducedAt g l a o → ProducedAt (lift g k) (lift_label k s l) a (in_state k s o)
  produced_in (Input p) a o c = absurd c
  produced_in (Output p) a o c = (c.0, ap (in_state k s) c.1)
  produced_in (OfEdge q) a o c = (c.0, c.1, in_state k s c.2, lift_edge k s c.3, tells_in g k s hs (OfEdge q) c.0 c.1 c.2 c.4, edge_at g k c.1 s c.2 c.3 hs c.5, c.6, ap (in_state k s) c.7)

-- each label but that of an output is consumed, and each but that of an input is produced
module _ (g : Grammar) (wf : IsWellFormed g) where
  pub consumed_or_output : (l : Label) → IsLabel g l → ((a : List Step) × (i : ℕ) × ConsumedAt g l a i) ⊎ ((p : ℕ) × (l ≡ Output p))
  consumed_or_output (Input p) h = inl ([], p, (refl, refl))
  consumed_or_output (Output p) h = inr (p, refl)
  consumed_or_output (OfEdge q) h =
      let r = (telling_law g wf).each q h in
      let x = at_there r.2 (production_at g r.1).edges r.3.ending.edge in
      inl (_, x.0.to.port, (r.0, r.1, r.2, x.0, r.3, x.1, refl, refl))

  pub produced_or_input : (l : Label) → IsLabel g l → ((a : List Step) × (o : ℕ) × ProducedAt g l a o) ⊎ ((p : ℕ) × (l ≡ Input p))
  produced_or_input (Input p) h = inr (p, refl)
  produced_or_input (Output p) h = inl ([], p, (refl, refl))
  produced_or_input (OfEdge q) h =
      let r = (telling_law g wf).each q h in
      let x = at_there r.2 (production_at g r.1).edges r.3.ending.edge in
      inl (_, x.0.from.port, (r.0, r.1, r.2, x.0, r.3, x.1, refl, refl))

-- a run that has both labels is an expansion, finished, and has their items where the labels tell
pub record AreThere (g : Grammar) (u : View) (events : List Event) (s t : Item) (a b : List Step) (i o : ℕ) : Type 0 where
  pub whole : IsExpansion g u g.start events
  pub consumed : IsConsumedAt g u g.start events s a i
  pub produced : IsProducedAt g u g.start events t b o

pub are_there : (g : Grammar) (u : View) → IsWellFormed g → (x y : Label) → AreShown g u x y → (events more : List Event) (s t : Item) → HasBoth g u x y events more s t →
    (a b : List Step) (i o : ℕ) → ConsumedAt g x a i → ProducedAt g y b o → AreThere g u (events ++ more) s t a b i o
are_there g u wf x y shown events more s t h a b i o c p = record {
  whole = record { run = h.finishing.run; started = more_started events more (label_started g events s x h.first.0); finished = h.finishing.finished };
  consumed = consumed_told g wf u (events ++ more) h.finishing.run s x (kept_law g u wf events more h.finishing.run s x h.first).label.0 shown.0 a i c;
  produced = produced_told g wf u (events ++ more) h.finishing.run t y (kept_law g u wf events more h.finishing.run t y h.second).label.0 shown.1 b o p;
}
