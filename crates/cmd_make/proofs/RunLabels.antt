-- The labels of a generated run.
use Rattle.std.proofs.Common.{ℕ, ◌<◌, List, length, sym, subst, arith}
use Rattle.wf_model.specs.declared.event.Event.{Event}
use Rattle.wf_model.specs.Grammar.{Grammar}
use Rattle.wf_model.specs.Items.{Item}
use Rattle.wf_model.specs.Lists.{IsIn}
use Rattle.wf_model.specs.Run.{IsAccepted}
use Rattle.wf_model.specs.WellFormed.{IsWellFormed}
use Rattle.wf_model.proofs.Lists.{in_map_from, is_at, at_in}
use Rattle.label_model.specs.Labels.{Label, Input}
use Rattle.label_model.specs.RunLabels.{labelled, HasLabel}
use Rattle.label_model.proofs.AcceptedLabels.{label_law}
use Rattle.wf_gen.specs.Turns.{generated}
use Rattle.wf_gen.proofs.GeneratedRuns.{generated_run_law}
use Rattle.wf_inputs.specs.Inputs.{instance_most}
use Rattle.cmd_make.specs.DrillText.{labels_of_run, label_no}

-- a generated run is accepted
pub generated_accepted : (g : Grammar) → IsWellFormed g → (n seed : ℕ) → IsAccepted g instance_most (generated g n seed instance_most).events
generated_accepted g formed n seed = (generated_run_law g formed n seed instance_most (omega arith) (omega arith)).accepted

module _ (g : Grammar) (formed : IsWellFormed g) (events : List Event) (accepted : IsAccepted g instance_most events) where
  -- a label of an accepted run is that of an item
  item_of : (l : Label) → IsIn l (labels_of_run g events) → (t : Item) × HasLabel g events t l
  item_of l i =
      let m = in_map_from (λ (t : Item × Label). t.1) l (labelled g events) i in
      (m.0.0, subst (HasLabel g events m.0.0) (sym m.2) (m.1, (label_law g formed events accepted).labels m.0.0 m.0.1 m.1))

  -- of each number of an item
  pub item_no : (k : ℕ) → k < length (labels_of_run g events) → (t : Item) × HasLabel g events t (label_no (labels_of_run g events) k)
  item_no k below =
      let ls = labels_of_run g events in
      item_of (label_no ls k) (at_in (label_no ls k) k ls (is_at k ls (Input 0) below))
