-- Tables of loop steps, as they are held and as the definitions see them.
use Rattle.std.proofs.Common.{◌≡◌, ℕ, zero, suc, List, length, get_or, set, replicate, Option, Some, None, option_map, true, false, refl, sym, ap, ◌∙◌, true≢false}
use Rattle.std.specs.Prelude.{is_some}
use Rattle.std.proofs.lemmas.List.{length-map, length-replicate, map-set}
use Rattle.std.proofs.Math.ListN.{get_or-map}
use Rattle.wf_model.specs.declared.body.Step.{Step as StepHeld}
use Rattle.wf_model.specs.Reach.{Step}
use Rattle.wf_model.specs.Steps.{step_of}
use Rattle.wf_loops.specs.Looped.{loop_in}
use Rattle.wf_loops.specs.Tables.{steps_in}

pub step_at : (steps : List (Option StepHeld)) (m : ℕ) → loop_in (steps_in steps) m ≡ option_map step_of (get_or steps m None)
step_at steps m = get_or-map (option_map step_of) steps m None

pub count_steps : (steps : List (Option StepHeld)) → length (steps_in steps) ≡ length steps
count_steps steps = length-map steps (option_map step_of)

pub step_written : (steps : List (Option StepHeld)) (m : ℕ) (s : StepHeld) → steps_in (set steps m (Some s)) ≡ set (steps_in steps) m (Some (step_of s))
step_written steps m s = map-set (option_map step_of) steps m (Some s)

none_at : (n m : ℕ) → get_or (replicate {A = Option StepHeld} n None) m None ≡ None
none_at zero m = refl
none_at (suc n) zero = refl
none_at (suc n) (suc m) = none_at n m

-- a table of nothing
pub none_replicated : (steps : List (Option StepHeld)) (n : ℕ) → steps ≡ replicate n None → (m : ℕ) → loop_in (steps_in steps) m ≡ None
none_replicated steps n is m = step_at steps m ∙ ap (option_map step_of) (ap (λ l. get_or l m None) is ∙ none_at n m)

pub count_replicated : (steps : List (Option StepHeld)) (n : ℕ) → steps ≡ replicate n None → length (steps_in steps) ≡ n
count_replicated steps n is = count_steps steps ∙ (ap length is ∙ length-replicate n None)

-- whether a module has a step
pub step_taken : (steps : List (Option StepHeld)) (m : ℕ) → is_some (get_or steps m None) ≡ true → (s : Step) × (loop_in (steps_in steps) m ≡ Some s)
step_taken steps m e = go (get_or steps m None) refl e
  where
    go : (o : Option StepHeld) → get_or steps m None ≡ o → is_some o ≡ true → (s : Step) × (loop_in (steps_in steps) m ≡ Some s)
    go None is t = absurd (true≢false (sym t))
    go (Some x) is t = (step_of x, step_at steps m ∙ ap (option_map step_of) is)

pub step_free : (steps : List (Option StepHeld)) (m : ℕ) → is_some (get_or steps m None) ≡ false → loop_in (steps_in steps) m ≡ None
step_free steps m e = go (get_or steps m None) refl e
  where
    go : (o : Option StepHeld) → get_or steps m None ≡ o → is_some o ≡ false → loop_in (steps_in steps) m ≡ None
    go None is t = step_at steps m ∙ ap (option_map step_of) is
    go (Some x) is t = absurd (true≢false t)

-- what a module has
pub some_at : (steps : List (Option StepHeld)) (m : ℕ) (s : StepHeld) → get_or steps m None ≡ Some s → loop_in (steps_in steps) m ≡ Some (step_of s)
some_at steps m s is = step_at steps m ∙ ap (option_map step_of) is

pub none_in : (steps : List (Option StepHeld)) (m : ℕ) → get_or steps m None ≡ None → loop_in (steps_in steps) m ≡ None
none_in steps m is = step_at steps m ∙ ap (option_map step_of) is
