-- Two loops of one module.
use Rattle.std.specs.Prelude.{◌≡◌, ◌≢◌, ℕ, ◌<◌, ◌⊎◌}
use Rattle.wf_model.specs.Grammar.{Grammar}
use Rattle.wf_model.specs.Reach.{Step}
use Rattle.wf_model.specs.Linear.{Continues}
use Rattle.wf_recur.specs.declared.fault.RecurFault.{RecurFault}
use Rattle.wf_recur.specs.declared.fault.RecurFault.TheVariants.{TwoLoops, NoMemory}
use Rattle.wf_recur.specs.Cycles.{step_of}

-- one step stands before another: by production, and then by position
abbrev pub IsBefore : Step → Step → Type 0
IsBefore s t = (s.production < t.production) ⊎ ((s.production ≡ t.production) × (s.position < t.position))

-- a module has at most one continuing step
abbrev pub HasOneLoop : Grammar → ℕ → Type 0
HasOneLoop g m = (s t : Step) → Continues g m s → Continues g m t → s ≡ t

-- the two least continuing steps of a module, where no lesser module has two
pub record IsTwoLoops (g : Grammar) (m : ℕ) (first second : Step) : Type 0 where
  pub first_continues : Continues g m first
  pub second_continues : Continues g m second
  pub in_order : IsBefore first second
  pub first_least : (s : Step) → Continues g m s → s ≢ first → IsBefore first s
  pub second_least : (s : Step) → Continues g m s → s ≢ first → s ≢ second → IsBefore second s
  pub least : (k : ℕ) → k < m → HasOneLoop g k

-- the fault of a grammar that is not strictly linear
abbrev pub IsFaultOf : Grammar → RecurFault → Type 0
IsFaultOf g (TwoLoops m s t) = IsTwoLoops g m.0 (step_of s) (step_of t)
IsFaultOf g NoMemory = ⊥
