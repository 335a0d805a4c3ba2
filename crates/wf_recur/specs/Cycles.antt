-- The cycles of a grammar as a table.
use Rattle.std.specs.Prelude.{◌≡◌, ℕ, ◌<◌, ◌≤◌, List, [], map, length, get_or, Option, Some, None}
use Rattle.wf_model.specs.Grammar.{Grammar}
use Rattle.wf_model.specs.Reach.{Step}
use Rattle.wf_model.specs.Linear.{Continues, IsOnCycle, IsPlaceFrom, IsCycleLength, AreCycles}
use Rattle.wf_recur.specs.declared.table.OnCycle.{OnCycle}
pub use Rattle.wf_model.specs.Steps.{step_of}

-- where a module stands: the number of its cycle, its place there, and its continuing step
pub record OnSeen : Type 0 where
  pub cycle : ℕ
  pub place : ℕ
  pub step : Step

abbrev pub on_of : OnCycle → OnSeen
on_of o = record { cycle = o.cycle.0; place = o.place; step = step_of o.step }

-- the modules of each cycle, by place, and for each module where it stands
pub record CyclesSeen : Type 0 where
  pub rounds : List (List ℕ)
  pub on : List (Option OnSeen)

-- at most 1,024 cycles, of at most 1,024 modules each: a grammar has no more modules
pub record AreFewRounds (rounds : List (List ℕ)) : Type 0 where
  pub few : length rounds ≤ 1024
  pub short : (k : ℕ) → length (get_or rounds k []) ≤ 1024

-- the modules of a cycle; none past the end
abbrev pub round_at : CyclesSeen → ℕ → List ℕ
round_at c k = get_or c.rounds k []

-- the module at place 0 of a cycle
abbrev pub least_of : List ℕ → ℕ
least_of round = get_or round 0 0

-- a cycle is gone round once, from its least module on: as many places as its length, and at each the module of this place
pub record IsRound (g : Grammar) (round : List ℕ) : Type 0 where
  pub whole : IsCycleLength g (least_of round) (length round)
  pub places : (j : ℕ) → j < length round → IsPlaceFrom g (least_of round) j (get_or round j 0)

-- a module stands at this place of this cycle, and goes on by this step
pub record StandsAt (g : Grammar) (c : CyclesSeen) (m : ℕ) (o : OnSeen) : Type 0 where
  pub cycle : o.cycle < length c.rounds
  pub place : o.place < length (round_at c o.cycle)
  pub is : get_or (round_at c o.cycle) o.place 0 ≡ m
  pub step : Continues g m o.step

-- a table of the cycles of a grammar
pub record AreCyclesOf (g : Grammar) (c : CyclesSeen) : Type 0 where
  pub numbered : AreCycles g (map least_of c.rounds)
  pub rounds : (k : ℕ) → k < length c.rounds → IsRound g (round_at c k)
  pub one_each : length c.on ≡ length g.modules
  pub on_none : (m : ℕ) → m < length g.modules → get_or c.on m None ≡ None → ¬ IsOnCycle g m
  pub on_one : (m : ℕ) (o : OnSeen) → get_or c.on m None ≡ Some o → StandsAt g c m o
  pub few : length c.rounds ≤ 1024
  pub short : (k : ℕ) → length (round_at c k) ≤ 1024
