-- Modules that have a continuing step and no place yet.
use Rattle.std.proofs.Common.{◌≡◌, ℕ, zero, suc, ◌<◌, ◌∙◌, ◌⊎◌, inl, inr, ⊎_elim, true, List, length, get_or, set, replicate, Option, None, Some, option_map, refl, sym, ap, true≢false}
use Rattle.std.specs.Prelude.{is_some}
use Rattle.std.proofs.lemmas.List.{map-set}
use Rattle.std.proofs.Math.ListN.{get_or-map}
use Rattle.wf_model.specs.declared.body.Step.{Step as StepHeld}
use Rattle.wf_model.specs.Grammar.{Grammar}
use Rattle.wf_model.specs.Linear.{IsOnCycle}
use Rattle.wf_recur.specs.declared.table.OnCycle.{OnCycle}
use Rattle.wf_recur.specs.Cycles.{OnSeen, on_of, step_of}
use Rattle.wf_recur.specs.Rounds.{IsPlaced, stands_in}
use Rattle.wf_recur.specs.Steps.{AreOnlySteps}
use Rattle.wf_recur.proofs.Telling.{none_told}

-- a place that is held is told
pub place_read : (on : List (Option OnCycle)) (m : ℕ) → is_some (get_or on m None) ≡ true → IsPlaced (stands_in on) m
place_read on m e = go (get_or on m None) refl e
  where
    go : (o : Option OnCycle) → get_or on m None ≡ o → is_some o ≡ true → IsPlaced (stands_in on) m
    go None is t = absurd (true≢false (sym t))
    go (Some x) is t = (on_of x, get_or-map (option_map on_of) on m None ∙ ap (option_map on_of) is)

-- a place is given, as it is held
pub place_written : (on : List (Option OnCycle)) (m n : ℕ) (o : OnCycle) → o.place ≡ n → stands_in (set on m (Some o)) ≡ set (stands_in on) m (Some (record { cycle = o.cycle.0; place = n; step = step_of o.step }))
place_written on m n o e =
    map-set (option_map on_of) on m (Some o) ∙ ap (λ k. set (stands_in on) m (Some (record { cycle = o.cycle.0; place = k; step = step_of o.step }))) e

-- a module with a place, or of which no step is told
pub met_told : (g : Grammar) (steps : List (Option StepHeld)) (on : List (Option OnSeen)) (m : ℕ) → AreOnlySteps g steps → m < length g.modules → IsPlaced on m ⊎ (get_or steps m None ≡ None) → IsPlaced on m ⊎ ¬ IsOnCycle g m
met_told g steps on m only h met = ⊎_elim (λ p. inl p) (λ e. inr (none_told g steps m only h e)) met

pub none_replicated : (on : List (Option OnCycle)) (n : ℕ) → on ≡ replicate n None → (m : ℕ) → get_or (stands_in on) m None ≡ None
none_replicated on n e m = get_or-map (option_map on_of) on m None ∙ ap (option_map on_of) (ap (λ l. get_or l m None) e ∙ none n m)
  where
    none : (n m : ℕ) → get_or (replicate {A = Option OnCycle} n None) m None ≡ None
    none zero m = refl
    none (suc n) zero = refl
    none (suc n) (suc m) = none n m
