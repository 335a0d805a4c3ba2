-- Laws of generated runs: they are accepted, and what is pending is what is not expanded.
use Rattle.std.specs.Prelude.{◌≡◌, ◌↔◌, ℕ, ◌+◌, ◌<◌, ◌≤◌, ◌^◌, ◌⊎◌, List, [], map, length, take, None}
use Rattle.wf_model.specs.Lists.{IsIn}
use Rattle.wf_model.specs.Grammar.{Grammar, IsComposite}
use Rattle.wf_model.specs.WellFormed.{IsWellFormed}
use Rattle.wf_model.specs.declared.event.Event.{Event}
use Rattle.wf_model.specs.Run.{Instance, made, expanded_by, IsAccepted}
use Rattle.numbered_names.specs.Names.{numbered_name}
use Rattle.wf_gen.specs.Turns.{Pending, Generated, child_count, turn_picked, generated}

-- the instance that is pending
abbrev pub instance_of : Pending → Instance
instance_of p = record { name = numbered_name p.number; module_no = p.module_no }

-- an instance of a run that is of a composite module and not expanded
abbrev pub IsUnexpanded : Grammar → List Event → Instance → Type 0
IsUnexpanded g events i = IsIn i (made g g.start events) × IsComposite g i.module_no × (expanded_by events i.name ≡ None)

-- A generated run. Its first k events are an accepted run, for every k: so each event extends the run before it.
-- The list of pending instances has the composite instances that are not expanded, and counts all that were made
pub record IsGeneratedRun (g : Grammar) (limit : ℕ) (r : Generated) : Type 0 where
  pub accepted : IsAccepted g limit r.events
  pub each : (k : ℕ) → IsAccepted g limit (take k r.events)
  pub pending : (i : Instance) → IsIn i (map instance_of r.last.pending) ↔ IsUnexpanded g r.events i
  pub count : length (made g g.start r.events) ≡ r.last.made

-- it has as many events as were asked for
abbrev pub IsFull : ℕ → Generated → Type 0
IsFull n r = length r.events ≡ n + 1

-- it has fewer, and nothing is pending, or a turn would pass the limit
abbrev pub IsStopped : Grammar → ℕ → ℕ → Generated → Type 0
IsStopped g limit n r = (length r.events ≤ n) × ((r.last.pending ≡ []) ⊎ ((d : ℕ) × (e : ℕ) × (limit < r.last.made + child_count g (turn_picked g r.last.pending d e))))

-- whatever the number of expansions and the seed, the run is accepted
abbrev pub GeneratedRunLaw : Type 0
GeneratedRunLaw = (g : Grammar) → IsWellFormed g → (n seed limit : ℕ) → 0 < limit → limit < 2 ^ 64 → IsGeneratedRun g limit (generated g n seed limit)

-- The run has a start event and n expand events. Or it has fewer: then nothing is pending, or two draws picked a turn that would have passed the limit
abbrev pub GeneratedLengthLaw : Type 0
GeneratedLengthLaw = (g : Grammar) (n seed limit : ℕ) → IsFull n (generated g n seed limit) ⊎ IsStopped g limit n (generated g n seed limit)
