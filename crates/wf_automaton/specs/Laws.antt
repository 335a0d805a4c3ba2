-- What a text comes to over a grammar, and what the automaton does that it describes.
use Rattle.std.specs.Prelude.{◌≡◌, ◌⊎◌, ◌<◌, ℕ, List, length}
use Rattle.wf_model.specs.Lists.{IsIn}
use Rattle.wf_model.specs.Grammar.{Grammar, module_at}
use Rattle.wf_model.specs.WellFormed.{IsWellFormed}
use Rattle.words_model.specs.Automata.{Automaton, next_state}
use Rattle.wf_automaton.specs.declared.parts.MovePart.{MovePart}
use Rattle.wf_automaton.specs.declared.parts.AutoParts.{AutoParts}
use Rattle.wf_automaton.specs.declared.fault.AutoFault.{AutoFault}
use Rattle.wf_automaton.specs.declared.fault.AutoFault.TheVariants.{NoMemory}
use Rattle.wf_automaton.specs.Forms.{IsAutoText}
use Rattle.wf_automaton.specs.Rules.{TellsAutomaton, IsAutoFault}

-- Bytes describe an automaton over a grammar, or have a fault. They describe one automaton at most, have one fault at most, and never both; and the fault is not want of memory
pub record HasOneAutoOutcome (g : Grammar) (bytes : List ℕ) : Type 0 where
  pub some : ((a : Automaton) × TellsAutomaton g bytes a) ⊎ ((f : AutoFault) × IsAutoFault g bytes f)
  pub one_automaton : (a b : Automaton) → TellsAutomaton g bytes a → TellsAutomaton g bytes b → a ≡ b
  pub one_fault : (f h : AutoFault) → IsAutoFault g bytes f → IsAutoFault g bytes h → f ≡ h
  pub not_both : (a : Automaton) (f : AutoFault) → TellsAutomaton g bytes a → IsAutoFault g bytes f → ⊥
  pub not_memory : IsAutoFault g bytes NoMemory → ⊥

-- so it is with all bytes, over each grammar
abbrev pub AutoOutcomeLaw : Type 0
AutoOutcomeLaw = (g : Grammar) (bytes : List ℕ) → HasOneAutoOutcome g bytes

-- the module of this number is there and has this name
abbrev pub IsNamed : Grammar → ℕ → List ℕ → Type 0
IsNamed g m name = (m < length g.modules) × ((module_at g m).name ≡ name)

-- The automaton that parts describe, in words. Each move leads from its state, past the module of its name, to its other state. Where no move is given for a state and a module, the state stays
pub record MovesAsSaid (g : Grammar) (p : AutoParts) (a : Automaton) : Type 0 where
  pub states : a.states ≡ p.states
  pub start : a.start ≡ p.start
  pub accept : a.accept ≡ p.accept
  pub leads : (v : MovePart) → IsIn v p.moves → (m : ℕ) → IsNamed g m v.«module» → next_state a v.from m ≡ v.to
  pub stays : (s m : ℕ) → ((v : MovePart) → IsIn v p.moves → v.from ≡ s → ¬ IsNamed g m v.«module») → next_state a s m ≡ s

-- so is the automaton that bytes describe
abbrev pub SaidMovesLaw : Type 0
SaidMovesLaw =
    (g : Grammar) → IsWellFormed g → (bytes : List ℕ) (a : Automaton) → TellsAutomaton g bytes a → (p : AutoParts) × IsAutoText bytes p × MovesAsSaid g p a
