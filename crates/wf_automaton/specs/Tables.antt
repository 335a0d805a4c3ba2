-- The tables by which an automaton is asked: which states accept, and where each state leads past each module.
use Rattle.std.specs.Prelude.{◌≡◌, ℕ, ◌<◌, Bool, false, cond, ◌&&◌, ◌==◌, List, [], ◌∷◌, get_or, Option, Some, None}
use Rattle.wf_model.specs.Lists.{some}
use Rattle.words_model.specs.Automata.{Automaton, Move, IsAutomaton}
use Rattle.words_model.specs.Lifting.{in_state}

-- an automaton as contracts see it
abbrev pub SeenAutomaton : Type 0
SeenAutomaton = Automaton

-- the state to which the first move for the state s and the module m leads, if there is one
abbrev pub moved_to : List Move → ℕ → ℕ → Option ℕ
moved_to [] s m = None
moved_to (v ∷ vs) s m = cond ((v.from == s) && (v.module_no == m)) (Some v.to) (moved_to vs s m)

-- a flag for each state, that is set where the state is in a list
abbrev pub AreFlagsOf : List ℕ → List Bool → Type 0
AreFlagsOf states flags = (s : ℕ) → get_or flags s false ≡ some (λ t. t == s) states

-- the place of the state s past the module m is that of a port with the number m in the state s, and what stands there is where moves lead
abbrev pub AreMovesOf : ℕ → List Move → List (Option ℕ) → Type 0
AreMovesOf k moves table = (s m : ℕ) → s < k → get_or table (in_state k s m) None ≡ moved_to moves s m

-- the tables of an automaton
pub record AreTablesOf (a : Automaton) (flags : List Bool) (table : List (Option ℕ)) : Type 0 where
  pub formed : IsAutomaton a
  pub accepting : AreFlagsOf a.accept flags
  pub leading : AreMovesOf a.states a.moves table
