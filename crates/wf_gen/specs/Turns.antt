-- Generated runs: which instance a turn expands and by which production, as two draws pick them, and the events of so many turns.
use Rattle.std.specs.Prelude.{ℕ, zero, suc, ◌+◌, ◌/◌, ◌%◌, Bool, cond, not, ◌||◌, ◌==◌, nat_lt, List, [], ◌∷◌, ◌++◌, length, get_or, swap_remove, Option, Some, None}
use Rattle.rand_pcg.specs.Lcg.{Lcg}
use Rattle.wf_model.specs.Grammar.{Grammar, body_of}
use Rattle.wf_model.specs.Composite.{is_composite}
use Rattle.wf_model.specs.Faults.{is_nil}
use Rattle.wf_model.specs.Reach.{Step}
use Rattle.wf_model.specs.declared.event.Event.{Event}
use Rattle.wf_model.specs.declared.event.Event.TheVariants.{Start, Expand}
use Rattle.wf_spec.specs.Tables.{productions_of}
use Rattle.label_model.specs.Continuing.{continuing}
use Rattle.numbered_names.specs.Names.{numbered_name, numbered_names}
use Rattle.wf_gen.specs.Draws.{seeded, draw, drawn}

-- a pending instance is one of a composite module that is not expanded: its number in the order of making, and its module
pub record Pending : Type 0 where
  pub number : ℕ
  pub module_no : ℕ

-- a run between two turns: how many instances were made, those that are pending, as a list, and the generator of the draws that follow
pub record State : Type 0 where
  pub made : ℕ
  pub pending : List Pending
  pub draws : Lcg

-- of instances with these modules, numbered from k on, those of composite modules
abbrev pub pending_from : Grammar → ℕ → List ℕ → List Pending
pending_from g k [] = []
pending_from g k (m ∷ ms) = cond (is_composite g m) (record { number = k; module_no = m } ∷ []) [] ++ pending_from g (suc k) ms

-- what is read past the end of such a list
abbrev pub no_pending : Pending
no_pending = record { number = 0; module_no = 0 }

-- a turn: the place of a pending instance in the list, the instance, and the production by which it is expanded
pub record Turn : Type 0 where
  pub place : ℕ
  pub instance : Pending
  pub production : ℕ

-- the first draw, d, picks the place of an instance in the list
abbrev pub place_picked : List Pending → ℕ → ℕ
place_picked pending d = d % length pending

-- the instance at this place
abbrev pub instance_picked : List Pending → ℕ → Pending
instance_picked pending d = get_or pending (place_picked pending d) no_pending

-- the second draw, e, picks one of a module's productions
abbrev pub alternative_picked : Grammar → ℕ → ℕ → ℕ
alternative_picked g m e = get_or (productions_of g m) (e / 4 % length (productions_of g m)) 0

-- a module stays on its cycle where no other instance is pending, and where e is no multiple of 4
abbrev pub stays_on_cycle : List Pending → ℕ → Bool
stays_on_cycle pending e = (length pending == 1) || not (e % 4 == 0)

-- the production of the continuing step, where there is one and the module stays on its cycle, and the other production elsewhere
abbrev pub production_by : Option Step → Bool → ℕ → ℕ
production_by None stays other = other
production_by (Some s) stays other = cond stays s.production other

-- by which production an instance of a module is expanded
abbrev pub production_picked : Grammar → List Pending → ℕ → ℕ → ℕ
production_picked g pending m e = production_by (continuing g m) (stays_on_cycle pending e) (alternative_picked g m e)

-- the turn that two draws pick
abbrev pub turn_picked : Grammar → List Pending → ℕ → ℕ → Turn
turn_picked g pending d e = record {
  place = place_picked pending d;
  instance = instance_picked pending d;
  production = production_picked g pending (instance_picked pending d).module_no e;
}

-- the next turn of a run: it draws d and then e
abbrev pub next_turn : Grammar → State → Turn
next_turn g s = turn_picked g s.pending (draw s.draws) (draw (drawn s.draws))

-- the generator after the two draws of a turn
abbrev pub draws_after : State → Lcg
draws_after s = drawn (drawn s.draws)

-- how many instances a turn makes: one for each position of the body
abbrev pub child_count : Grammar → Turn → ℕ
child_count g t = length (body_of g t.production)

-- the event of a turn, where so many instances were made before
abbrev pub event_of : Grammar → ℕ → Turn → Event
event_of g made t = Expand (numbered_name t.instance.number) t.production (numbered_names made (child_count g t))

-- the pending instances after a turn: the last of the list takes the place of the one that is expanded, and the composite children follow in their order
abbrev pub pending_after : Grammar → State → Turn → List Pending
pending_after g s t = swap_remove s.pending t.place no_pending ++ pending_from g s.made (body_of g t.production)

-- the run after a turn, with the generator of the draws that follow
abbrev pub after_turn : Grammar → State → Turn → Lcg → State
after_turn g s t draws = record { made = s.made + child_count g t; pending = pending_after g s t; draws = draws }

-- the run with two draws spent, and no turn taken
abbrev pub after_draws : State → State
after_draws s = record { made = s.made; pending = s.pending; draws = draws_after s }

-- events, and the run after them
pub record Generated : Type 0 where
  pub events : List Event
  pub last : State

abbrev pub ends_in : State → Generated
ends_in s = record { events = []; last = s }

abbrev pub begins_with : Event → Generated → Generated
begins_with e r = record { events = e ∷ r.events; last = r.last }

-- At most n turns of a run, with a limit on its instances. They end where nothing is pending, and before a turn whose event would pass the limit: its two draws are spent
abbrev pub turns : Grammar → ℕ → ℕ → State → Generated
turns g limit zero s = ends_in s
turns g limit (suc n) s =
    cond (is_nil s.pending) (ends_in s)
    (cond (nat_lt limit (s.made + child_count g (next_turn g s))) (ends_in (after_draws s))
    (begins_with (event_of g s.made (next_turn g s)) (turns g limit n (after_turn g s (next_turn g s) (draws_after s)))))

-- the run after its start: the root is made, and pending if it is composite
abbrev pub first_state : Grammar → Lcg → State
first_state g draws = record { made = 1; pending = pending_from g 0 (g.start ∷ []); draws = draws }

-- the start of a run, and at most n turns, with these draws
abbrev pub started : Grammar → ℕ → ℕ → Lcg → Generated
started g limit n draws = begins_with (Start (numbered_name 0)) (turns g limit n (first_state g draws))

-- the run of at most n expansions that a seed gives, with a limit on its instances
abbrev pub generated : Grammar → ℕ → ℕ → ℕ → Generated
generated g n seed limit = started g limit n (seeded seed)
