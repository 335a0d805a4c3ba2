-- Automata that read words, which are lists of modules.
use Rattle.std.specs.Prelude.{ℕ, ◌<◌, cond, ◌&&◌, ◌==◌, List, [], ◌∷◌}
use Rattle.wf_model.specs.Lists.{IsIn}

-- a move: a module leads from one state to another
pub record Move : Type 0 where
  pub from : ℕ
  pub module_no : ℕ
  pub to : ℕ

-- an automaton: its number of states, which are numbered from 0, the state where it starts, those that accept, and its moves
pub record Automaton : Type 0 where
  pub states : ℕ
  pub start : ℕ
  pub accept : List ℕ
  pub moves : List Move

-- the states that an automaton names are states of it
pub record IsAutomaton (a : Automaton) : Type 0 where
  pub start : a.start < a.states
  pub accept : (s : ℕ) → IsIn s a.accept → s < a.states
  pub moves : (v : Move) → IsIn v a.moves → (v.from < a.states) × (v.to < a.states)

-- the state to which the first move for the state s and the module m leads, and s where there is none
abbrev pub moved_by : List Move → ℕ → ℕ → ℕ
moved_by [] s m = s
moved_by (v ∷ vs) s m = cond ((v.from == s) && (v.module_no == m)) v.to (moved_by vs s m)

-- the next state: where no move is given for a state and a module, the state stays
abbrev pub next_state : Automaton → ℕ → ℕ → ℕ
next_state a s m = moved_by a.moves s m

-- the state to which a word leads from the state s
abbrev pub state_after : Automaton → ℕ → List ℕ → ℕ
state_after a s [] = s
state_after a s (m ∷ word) = state_after a (next_state a s m) word

-- a word is accepted where it leads from the start to a state that accepts
abbrev pub IsAcceptedWord : Automaton → List ℕ → Type 0
IsAcceptedWord a word = IsIn (state_after a a.start word) a.accept
