-- One entry of loops: whether it is one of a module that has no step yet.
use Rattle.std.proofs.Common.{◌≡◌, ℕ, List, get_or, set, Option, Some, None, true, false, ap, ◌∙◌, subst}
use Rattle.std.specs.Prelude.{is_some}
use Rattle.wf_model.specs.declared.body.Step.{Step as StepHeld}
use Rattle.wf_model.specs.Grammar.{Grammar}
use Rattle.wf_model.specs.WellFormed.{IsWellFormed}
use Rattle.wf_model.specs.Reach.{Step}
use Rattle.wf_model.specs.Steps.{step_of}
use Rattle.package_model.specs.Packages.{LoopEntry}
use Rattle.wf_loops.specs.Looped.{loop_in}
use Rattle.wf_loops.specs.Tables.{steps_in}
use Rattle.wf_loops.specs.Entries.{IsEntryOf, IsEntered, IsSecondEntry}
use Rattle.wf_loops.proofs.NamedModules.{one_named}
use Rattle.wf_loops.proofs.StepTables.{step_written, step_taken, step_free}

module _ (g : Grammar) (e : LoopEntry) (steps : List (Option StepHeld)) where
  pub none_here : ((m : ℕ) → IsEntryOf g e m → ⊥) → IsSecondEntry g e (steps_in steps)
  none_here none m h = absurd (none m h)

  module _ (m : ℕ) (of : IsEntryOf g e m) where
    pub second_here : IsWellFormed g → is_some (get_or steps m None) ≡ true → IsSecondEntry g e (steps_in steps)
    second_here formed taken n h =
        subst (λ k. (s : Step) × (loop_in (steps_in steps) k ≡ Some s)) (one_named g formed e m n of.0 h.0) (step_taken steps m taken)

    pub entered_here : (s : StepHeld) → is_some (get_or steps m None) ≡ false → step_of s ≡ e.step → IsEntered g e (steps_in steps) (steps_in (set steps m (Some s)))
    entered_here s free is = record {
      module_no = m;
      entry_of = of;
      free = step_free steps m free;
      is = step_written steps m s ∙ ap (λ (t : Step). set (steps_in steps) m (Some t)) is;
    }
