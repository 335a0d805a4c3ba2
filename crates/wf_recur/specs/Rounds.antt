-- Rounds of cycles, module by module, and where their modules stand.
use Rattle.std.specs.Prelude.{◌≡◌, ◌≢◌, ◌⊎◌, ℕ, ◌<◌, ◌≤◌, List, [], map, length, get_or, Option, None, Some, Vec, option_map, is_none, count_by}
use Rattle.std.specs.declared.alloc.Global.{Global}
use Rattle.wf_model.specs.declared.numbers.ModNo.{ModNo}
use Rattle.wf_model.specs.Lists.{IsIn, IsAt}
use Rattle.wf_model.specs.Grammar.{Grammar}
use Rattle.wf_model.specs.Linear.{Continues, IsOnCycle, GoesOn, GoesOnBy, IsLeast}
use Rattle.wf_recur.specs.declared.table.OnCycle.{OnCycle}
use Rattle.wf_recur.specs.Cycles.{OnSeen, on_of, least_of, IsRound, StandsAt}

-- the numbers of modules
abbrev pub numbers_of : List ModNo → List ℕ
numbers_of = map (λ (m : ModNo). m.0)

-- the numbers in rounds
abbrev pub rounds_in : List (Vec ModNo Global) → List (List ℕ)
rounds_in = map (λ (r : Vec ModNo Global). map (λ (m : ModNo). m.0) r.items)

-- where modules stand, as the definitions see it
abbrev pub stands_in : List (Option OnCycle) → List (Option OnSeen)
stands_in = map (option_map on_of)

-- it is told where the module stands
abbrev pub IsPlaced : List (Option OnSeen) → ℕ → Type 0
IsPlaced on m = (o : OnSeen) × (get_or on m None ≡ Some o)

-- to how many modules no place is given
abbrev pub unplaced : List (Option OnSeen) → ℕ
unplaced = count_by is_none

-- the next module of each that is placed is placed
abbrev pub IsClosed : Grammar → List (Option OnSeen) → Type 0
IsClosed g on = (a b : ℕ) → IsPlaced on a → GoesOn g a b → IsPlaced on b

-- the module stands at this place of the round, and goes on by this step
pub record IsPlaceOn (g : Grammar) (cycle : ℕ) (round : List ℕ) (m : ℕ) (o : OnSeen) : Type 0 where
  pub cycle_no : o.cycle ≡ cycle
  pub place : o.place < length round
  pub is : get_or round o.place 0 ≡ m
  pub step : Continues g m o.step

-- the modules of a round were given their places, and no others
pub record ArePlaced (g : Grammar) (cycle : ℕ) (round : List ℕ) (before after : List (Option OnSeen)) : Type 0 where
  pub count : length after ≡ length before
  pub old : (m : ℕ) (o : OnSeen) → get_or before m None ≡ Some o → get_or after m None ≡ Some o
  pub new : (m : ℕ) (o : OnSeen) → get_or after m None ≡ Some o → (get_or before m None ≡ Some o) ⊎ IsPlaceOn g cycle round m o
  pub each : (j : ℕ) → j < length round → IsPlaced after (get_or round j 0)

-- continuing steps lead from a module through those of the list, all different, to the module m
pub record IsWay (g : Grammar) (from : ℕ) (round : List ℕ) (m : ℕ) : Type 0 where
  pub goes : (j : ℕ) → j < length round → GoesOnBy g j from (get_or round j 0)
  pub to : GoesOnBy g (length round) from m
  pub differ : (i j : ℕ) → i < j → j < length round → get_or round i 0 ≢ get_or round j 0

-- a cycle is gone round once, from the module m on
pub record IsRoundFrom (g : Grammar) (m : ℕ) (round : List ℕ) : Type 0 where
  pub whole : IsRound g round
  pub first : least_of round ≡ m
  pub short : length round ≤ 1024

-- the least modules of all cycles that have one below n, in order
pub record AreCyclesBelow (g : Grammar) (n : ℕ) (leasts : List ℕ) : Type 0 where
  pub in_order : (j k a b : ℕ) → j < k → IsAt a j leasts → IsAt b k leasts → a < b
  pub below : (m : ℕ) → IsIn m leasts → m < n
  pub each : (m : ℕ) → IsIn m leasts → IsLeast g m
  pub all : (m : ℕ) → m < n → IsLeast g m → IsIn m leasts

-- the cycles that have a module below n, by rounds, and where their modules stand
pub record AreRoundsBelow (g : Grammar) (n : ℕ) (rounds : List (List ℕ)) (on : List (Option OnSeen)) : Type 0 where
  pub few : length rounds ≤ n
  pub leasts : AreCyclesBelow g n (map least_of rounds)
  pub each : (k : ℕ) → k < length rounds → IsRound g (get_or rounds k [])
  pub short : (k : ℕ) → length (get_or rounds k []) ≤ 1024
  pub one_each : length on ≡ length g.modules
  pub stands : (m : ℕ) (o : OnSeen) → get_or on m None ≡ Some o → StandsAt g (record { rounds = rounds; on = on }) m o
  pub placed : (m : ℕ) → m < n → IsOnCycle g m → IsPlaced on m
  pub closed : IsClosed g on
