-- The part of the loops that is made for a module.
use Rattle.std.proofs.Common.{◌≡◌, ℕ, ◌<◌, true, false, cond, List, [], length, get_or, Option, Some, None, refl, ap, ◌∙◌, sym}
use Rattle.std.specs.Prelude.{option_map}
use Rattle.wf_model.specs.Grammar.{Grammar}
use Rattle.wf_model.specs.View.{View, expands}
use Rattle.wf_model.specs.Reach.{Step}
use Rattle.wf_model.specs.Steps.{step_of}
use Rattle.wf_model.specs.WellFormed.{IsWellFormed}
use Rattle.wf_model.specs.Linear.{IsLinear}
use Rattle.label_model.specs.Continuing.{continuing}
use Rattle.label_model.proofs.ContinuingSteps.{continuing_is}
use Rattle.version_model.specs.Standing.{renumbered_step}
use Rattle.wf_recur.specs.Cycles.{OnSeen, CyclesSeen, AreCyclesOf, on_of}
use Rattle.wf_recur.specs.declared.table.OnCycle.{OnCycle}
use Rattle.wf_recur.proofs.OneTable.{cycled}
use Rattle.wf_recur.proofs.Places.{step_told}
use Rattle.package_model.specs.Packages.{LoopEntry, entry_if}
use Rattle.wf_package.specs.Parts.{loop_part}

module _ (g : Grammar) (formed : IsWellFormed g) (linear : IsLinear g) (c : CyclesSeen) (is : ∥ AreCyclesOf g c ∥₁) (m : ℕ) (below : m < length g.modules) where
  -- what a table tells of a module is its continuing step
  pub step_held : (o : Option OnCycle) → option_map on_of o ≡ get_or c.on m None → continuing g m ≡ option_map (λ (s : OnCycle). step_of s.step) o
  step_held o told = sym (by o ∙ ap (option_map (λ (s : OnSeen). s.step)) told ∙ step_told g c formed linear (cycled g formed linear c is) m below)
    where
      by : (o : Option OnCycle) → option_map (λ (s : OnCycle). step_of s.step) o ≡ option_map (λ (s : OnSeen). s.step) (option_map on_of o)
      by None = refl
      by (Some s) = refl

  -- the production of the step is one of the grammar
  pub step_below : (s : OnCycle) → option_map on_of (Some s) ≡ get_or c.on m None → s.step.production.0 < length g.productions
  step_below s told = (continuing_is g m (step_of s.step) (step_held (Some s) told)).0.in_range

module _ (g : Grammar) (u : View) (places : List ℕ) (k m : ℕ) where
  -- nothing for a module that is not expanded
  pub loop_shut : expands u m ≡ false → loop_part g u places k m ≡ []
  loop_shut shut = ap (λ b. cond {A = List LoopEntry} b (entry_if k (option_map (renumbered_step (λ p. get_or places p 0)) (continuing g m)) []) []) shut

  -- and for one that is, the entry of its continuing step
  pub loop_open : (o : Option Step) → expands u m ≡ true → continuing g m ≡ o → loop_part g u places k m ≡ entry_if k (option_map (renumbered_step (λ p. get_or places p 0)) o) []
  loop_open o opened is =
      ap (λ b. cond {A = List LoopEntry} b (entry_if k (option_map (renumbered_step (λ p. get_or places p 0)) (continuing g m)) []) []) opened
      ∙ ap (λ s. entry_if k (option_map (renumbered_step (λ p. get_or places p 0)) s) []) is
