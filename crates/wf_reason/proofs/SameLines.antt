-- What is said of lines is the same by each full assignment of a view.
use Rattle.std.proofs.Common.{ℕ, List, take}
use Rattle.wf_model.specs.Grammar.{Grammar, Assignment}
use Rattle.wf_model.specs.Proper.{IsProper}
use Rattle.wf_model.specs.View.{View}
use Rattle.wf_model.specs.declared.event.Event.{Event}
use Rattle.wf_model.specs.Run.{IsRun}
use Rattle.wf_model.specs.Items.{Item}
use Rattle.wf_model.specs.Safe.{IsFull}
use Rattle.wf_model.specs.Finishing.{ExpandsComposites}
use Rattle.chain_model.proofs.FullPairs.{steps_same, chain_same}
use Rattle.wf_reason.specs.ChainLines.{ChainLine}
use Rattle.wf_reason.specs.HandedIn.{HandedLine, said}
use Rattle.wf_reason.specs.Right.{LeadToItem, AreRight, none, to_item, to_instance, AreOfChain, IsFirstWrong}
use Rattle.wf_reason.specs.Checked.{IsCheckedText, yes, no}

module _ (g : Grammar) (u : View) (proper : IsProper g) (composites : ExpandsComposites g u) where
  module _ (d b : Assignment) (of_d : IsFull g u d) (of_b : IsFull g u b) (events : List Event) (run : IsRun g g.start events) where
    lead_same : (lines : List ChainLine) (y : Item) → LeadToItem g u d g.start events lines y → LeadToItem g u b g.start events lines y
    lead_same lines y h = record {
      first = h.first;
      steps = h.steps;
      there = h.there;
      visible = h.visible;
      steps_lead = steps_same g u proper composites d b of_d of_b events run h.first y h.steps h.steps_lead;
      are = h.are;
    }

    right_same : (lines : List ChainLine) → AreRight g u d g.start events lines → AreRight g u b g.start events lines
    right_same lines (none e) = none e
    right_same lines (to_item y h) = to_item y (lead_same lines y h)
    right_same lines (to_instance n h) = to_instance n (record { before = h.before; item = h.item; lead = lead_same h.before h.item h.lead; consumed = h.consumed; are = h.are })

    of_chain_same : (lines : List ChainLine) → AreOfChain g u d g.start events lines → AreOfChain g u b g.start events lines
    of_chain_same lines h = record { from = h.from; steps = h.steps; to = h.to; chain = chain_same g u proper composites d b of_d of_b events run h.from h.to h.steps h.chain; are = h.are }

  module _ (d b : Assignment) (of_d : IsFull g u d) (of_b : IsFull g u b) (events : List Event) (run : IsRun g g.start events) where
    wrong_same : (lines : List ChainLine) (k : ℕ) → IsFirstWrong g u d g.start events lines k → IsFirstWrong g u b g.start events lines k
    wrong_same lines k h = record {
      no_chain = λ c. h.no_chain (of_chain_same b d of_b of_d events run lines c);
      within = h.within;
      right = right_same d b of_d of_b events run (take k lines) h.right;
      most = λ j w r. h.most j w (right_same b d of_b of_d events run (take j lines) r);
    }

    pub checked_same : (lines : List HandedLine) (text : List ℕ) → IsCheckedText g u d g.start events lines text → IsCheckedText g u b g.start events lines text
    checked_same lines text (yes c e) = yes (of_chain_same d b of_d of_b events run (said lines) c) e
    checked_same lines text (no k w e) = no k (wrong_same (said lines) k w) e
