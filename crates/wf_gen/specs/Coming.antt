-- What contracts see of a generator: the events to come, the draws after them, and whether it is known that none comes.
use Rattle.std.specs.Prelude.{◌≡◌, ℕ, Bool, true, false, cond, not, ◌||◌, ◌&&◌, ◌==◌, List, [], ◌∷◌, ◌++◌, Option, MatchOption}
use Rattle.rand_pcg.specs.Lcg.{Lcg}
use Rattle.wf_model.specs.Grammar.{Grammar}
use Rattle.wf_model.specs.Faults.{is_nil}
use Rattle.wf_model.specs.declared.event.Event.{Event}
use Rattle.wf_gen.specs.Lines.{event_line}
use Rattle.wf_gen.specs.Turns.{State, Generated, turns, started}

-- the events to come, the generator of the draws after the last of them, and whether no further turn is tried
pub record Coming : Type 0 where
  pub events : List Event
  pub draws : Lcg
  pub ended : Bool

-- the same, of generated events of which none was given yet
abbrev pub all_of : Generated → Coming
all_of r = record { events = r.events; draws = r.last.draws; ended = false }

-- what a run has before it, with at most n turns: all of it where nothing was made
abbrev pub rest_of : Grammar → ℕ → ℕ → State → Generated
rest_of g limit n s = cond (s.made == 0) (started g limit n s.draws) (turns g limit n s)

-- no further turn is tried, once the run has its start, where no turn is left or nothing is pending
abbrev pub has_ended : ℕ → State → Bool
has_ended n s = not (s.made == 0) && ((n == 0) || is_nil s.pending)

-- what contracts see, from the fields
abbrev pub coming : Grammar → ℕ → ℕ → State → Coming
coming g limit n s = record { events = (rest_of g limit n s).events; draws = (rest_of g limit n s).last.draws; ended = has_ended n s }

-- no event came, and it is known that none comes
pub record IsEnd (old new : Coming) : Type 0 where
  pub none : old.events ≡ []
  pub none_after : new.events ≡ []
  pub draws : new.draws ≡ old.draws
  pub ended : new.ended ≡ true

-- this event came first, and the others are to come
pub record IsFirst (old : Coming) (e : Event) (new : Coming) : Type 0 where
  pub events : old.events ≡ e ∷ new.events
  pub draws : new.draws ≡ old.draws

-- what is given is the first of the events to come, and nothing exactly where there is none
abbrev pub IsNext : Coming → Option Event → Coming → Type 0
IsNext old given new = MatchOption given (IsEnd old new) (λ e. IsFirst old e new)

-- the line of the first of the events to come was appended, and the others are to come; or nothing was appended, and it is known that none comes
abbrev pub IsNextLine : Coming → Bool → Coming → List ℕ → List ℕ → Type 0
IsNextLine old true new before after = (e : Event) × IsFirst old e new × (after ≡ before ++ event_line e)
IsNextLine old false new before after = IsEnd old new × (after ≡ before)
