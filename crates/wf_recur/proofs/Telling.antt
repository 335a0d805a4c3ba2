-- What is known where the continuing steps of modules are told.
use Rattle.std.proofs.Common.{◌≡◌, ℕ, ◌<◌, ◌⊎◌, ◌∙◌, List, length, get_or, Option, Some, None, refl, sym, subst, inl, inr}
use Rattle.wf_model.specs.declared.body.Step.{Step as StepHeld}
use Rattle.wf_model.specs.Grammar.{Grammar}
use Rattle.wf_model.specs.WellFormed.{IsWellFormed}
use Rattle.wf_model.specs.Reach.{Step}
use Rattle.wf_model.specs.Linear.{Continues, IsLinear, IsOnCycle}
use Rattle.wf_recur.specs.declared.fault.RecurFault.{RecurFault}
use Rattle.wf_recur.specs.declared.fault.RecurFault.TheVariants.{TwoLoops, NoMemory}
use Rattle.wf_recur.specs.Cycles.{step_of}
use Rattle.wf_recur.specs.Loops.{HasOneLoop, IsTwoLoops, IsFaultOf}
use Rattle.wf_recur.specs.Steps.{TellsStep, IsFaultAt, AreOnlySteps}

-- a module of which a step, or none, is told has one loop at most
one_loop : (g : Grammar) (m : ℕ) (o : Option StepHeld) → TellsStep g m o → HasOneLoop g m
one_loop g m None h s t c d = absurd (h (s, c))
one_loop g m (Some x) h s t c d = h.1 s c ∙ sym (h.1 t d)

pub continues_below : (g : Grammar) → IsWellFormed g → (m : ℕ) (s : Step) → Continues g m s → m < length g.modules
continues_below g w m s c = subst (λ k. k < length g.modules) c.0.head (w.heads s.production c.0.in_range)

pub steps_linear : (g : Grammar) → IsWellFormed g → (steps : List (Option StepHeld)) → AreOnlySteps g steps → IsLinear g
steps_linear g w steps only m s t c d = one_loop g m (get_or steps m None) (only.told m (continues_below g w m s c)) s t c d

pub step_told : (g : Grammar) (steps : List (Option StepHeld)) (m : ℕ) (s : StepHeld) → AreOnlySteps g steps → m < length g.modules → get_or steps m None ≡ Some s → Continues g m (step_of s)
step_told g steps m s only h e = (subst (TellsStep g m) e (only.told m h)).0

pub none_told : (g : Grammar) (steps : List (Option StepHeld)) (m : ℕ) → AreOnlySteps g steps → m < length g.modules → get_or steps m None ≡ None → ¬ IsOnCycle g m
none_told g steps m only h e = subst (TellsStep g m) e (only.told m h)

-- the fault of the first module with two continuing steps is that of the grammar
pub fault_first : (g : Grammar) (m : ℕ) (steps : List (Option StepHeld)) → ((k : ℕ) → k < m → TellsStep g k (get_or steps k None)) → (f : RecurFault) → (f ≡ NoMemory) ⊎ IsFaultAt g m f → (f ≡ NoMemory) ⊎ IsFaultOf g f
fault_first g m steps told NoMemory h = inl refl
fault_first g m steps told (TwoLoops k s t) (inl e) = inl e
fault_first g m steps told (TwoLoops k s t) (inr h) =
    let two = h.1 in
    inr (subst (λ n. IsTwoLoops g n (step_of s) (step_of t)) (sym h.0) (record {
      first_continues = two.first_continues;
      second_continues = two.second_continues;
      in_order = two.in_order;
      first_least = two.first_least;
      second_least = two.second_least;
      least = λ j l. one_loop g j (get_or steps j None) (told j l);
    }))
