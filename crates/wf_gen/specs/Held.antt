-- Generated runs as the program holds them.
use Rattle.std.specs.Prelude.{◌≡◌, ℕ, ◌+◌, ◌^◌, ◌<◌, ◌≤◌, false, List, [], map, length, Option, MatchOption}
use Rattle.wf_model.specs.Lists.{IsIn}
use Rattle.wf_model.specs.Grammar.{Grammar, IsComposite}
use Rattle.wf_model.specs.Faults.{is_nil}
use Rattle.wf_model.specs.declared.event.Event.{Event}
use Rattle.wf_model.specs.declared.event.Event.TheVariants.{Expand}
use Rattle.wf_gen.specs.declared.pending.Pending.{Pending as PendingHeld}
use Rattle.wf_gen.specs.declared.choice.Turn.{Turn as TurnHeld}
use Rattle.wf_gen.specs.declared.turn.State.{State as StateHeld}
use Rattle.wf_gen.specs.declared.turn.Drawn.{Drawn as DrawnHeld}
use Rattle.numbered_names.specs.Names.{numbered_name, numbered_names}
use Rattle.wf_gen.specs.Turns.{Pending, Turn, State, child_count, event_of, next_turn, draws_after, after_turn, after_draws}
use Rattle.wf_gen.specs.Coming.{IsEnd, coming}

-- a pending instance, as the definitions see it
abbrev pub pending_of : PendingHeld → Pending
pending_of p = record { number = p.number; module_no = p.«module».0 }

-- pending instances, as they see them
abbrev pub all_pending : List PendingHeld → List Pending
all_pending = map pending_of

-- a turn, as they see it
abbrev pub turn_of : TurnHeld → Turn
turn_of t = record { place = t.place; instance = pending_of t.instance; production = t.production.0 }

-- a run between two turns, as they see it
abbrev pub state_of : StateHeld → State
state_of s = record { made = s.made; pending = all_pending s.pending.items; draws = s.draws }

-- each of them is of a composite module
abbrev pub AreComposite : Grammar → List Pending → Type 0
AreComposite g pending = (p : Pending) → IsIn p pending → (p.module_no < length g.modules) × IsComposite g p.module_no

-- a turn that was drawn can be taken: it is one of a pending instance, it is told how many children it makes, and their numbers have 32 bits
pub record CanTake (g : Grammar) (s : State) (d : DrawnHeld) : Type 0 where
  pub place : d.turn.place < length s.pending
  pub production : d.turn.production.0 < length g.productions
  pub count : d.count ≡ child_count g (turn_of d.turn)
  pub numbers : s.made + d.count < 2 ^ 32

-- it is the next turn of a run, and stays in the limit
pub record IsNextTurn (g : Grammar) (limit : ℕ) (s : State) (d : DrawnHeld) : Type 0 where
  pub can_take : CanTake g s d
  pub turn : turn_of d.turn ≡ next_turn g s
  pub draws : d.draws ≡ draws_after s
  pub within : s.made + d.count ≤ limit

-- two draws were spent, and the next turn would pass the limit; or it was drawn, and the run is as it was
abbrev pub IsDrawn : Grammar → ℕ → State → Option DrawnHeld → State → Type 0
IsDrawn g limit old drawn new =
    MatchOption drawn ((limit < old.made + child_count g (next_turn g old)) × (new ≡ after_draws old))
    (λ d. IsNextTurn g limit old d × (new ≡ old))

-- a turn comes next, and the run is as it was; or it is known that none comes
abbrev pub IsTurnOrEnd : Grammar → ℕ → ℕ → State → Option DrawnHeld → ℕ → State → Type 0
IsTurnOrEnd g limit n old drawn left new =
    MatchOption drawn (IsEnd (coming g limit n old) (coming g limit left new))
    (λ d. IsNextTurn g limit old d × (0 < n) × (is_nil old.pending ≡ false) × (left ≡ n) × (new ≡ old))

-- the event of a turn that was drawn, where so many instances were made before
abbrev pub event_drawn : ℕ → DrawnHeld → Event
event_drawn made d = Expand (numbered_name d.turn.instance.number) d.turn.production.0 (numbered_names made d.count)

-- the next turn of a run: nothing but two draws where it would pass the limit; else the event of the turn
abbrev pub IsTurn : Grammar → ℕ → State → Option Event → State → Type 0
IsTurn g limit old given new =
    MatchOption given ((limit < old.made + child_count g (next_turn g old)) × (new ≡ after_draws old))
    (λ e. (old.made + child_count g (next_turn g old) ≤ limit) × (e ≡ event_of g old.made (next_turn g old)) × (new ≡ after_turn g old (next_turn g old) (draws_after old)))

-- how many turns are left after a turn: none after one that gave no event
abbrev pub AreLeft : ℕ → Option Event → ℕ → Type 0
AreLeft old given new = MatchOption given (new ≡ 0) (λ e. new + 1 ≡ old)

-- what the fields of a generator keep
pub record IsKept (g : Grammar) (limit : ℕ) (s : State) : Type 0 where
  pub room : 0 < limit
  pub within : s.made ≤ limit
  pub before_start : s.made ≡ 0 → s.pending ≡ []
  pub composite : AreComposite g s.pending
