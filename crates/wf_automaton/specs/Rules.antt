-- The rules that the parts of an automaton keep, in the order in which they are tried, and the fault that is told where one is broken; and the automaton that they describe.
use Rattle.std.specs.Prelude.{◌≡◌, ◌⊎◌, ℕ, ◌*◌, ◌<◌, ◌≤◌, List, [], ◌∷◌, ◌++◌, map, length, take, get_or}
use Rattle.wf_model.specs.Lists.{IsIn}
use Rattle.wf_model.specs.Grammar.{Grammar, Module}
use Rattle.wf_spec.specs.Naming.{place_of, names_of}
use Rattle.wf_spec.specs.FirstFaults.{Rule, each, once, AllHold, IsFirstFault}
use Rattle.words_model.specs.Automata.{Automaton, Move}
use Rattle.wf_automaton.specs.declared.parts.MovePart.{MovePart}
use Rattle.wf_automaton.specs.declared.parts.AutoParts.{AutoParts}
use Rattle.wf_automaton.specs.declared.fault.AutoMember.TheVariants.{Start, Accept, Moves}
use Rattle.wf_automaton.specs.declared.fault.AutoFault.{AutoFault}
use Rattle.wf_automaton.specs.declared.fault.AutoFault.TheVariants.{StatesBad, StateBad, UnknownModule, MoveTwice, TooManyStates}
use Rattle.wf_automaton.specs.Forms.{IsAutoText, IsShapeFault}

-- a move of a module that is named, by its number
abbrev pub move_of : Grammar → MovePart → Move
move_of g v = record { from = v.from; module_no = place_of (names_of g.modules) v.«module»; to = v.to }

-- the automaton that parts describe
abbrev pub automaton_of : Grammar → AutoParts → Automaton
automaton_of g p = record { states = p.states; start = p.start; accept = p.accept; moves = map (move_of g) p.moves }

-- StatesBad: there are states, and at most 64
abbrev pub AreSomeStates : ℕ → Type 0
AreSomeStates k = (0 < k) × (k ≤ 64)

-- StateBad: the states of a move are below the number of states
abbrev pub IsMoveBelow : ℕ → MovePart → Type 0
IsMoveBelow k v = (v.from < k) × (v.to < k)

-- UnknownModule: the name in a move is that of a module
abbrev pub IsMoveOf : Grammar → MovePart → Type 0
IsMoveOf g v = IsIn v.«module» (names_of g.modules)

-- the state and the module that a move leaves
abbrev pub move_keys : List Move → List (ℕ × ℕ)
move_keys moves = map (λ (v : Move). (v.from, v.module_no)) moves

-- MoveTwice: no earlier move has the same state and the same module
abbrev pub IsNewMoveAt : List Move → ℕ → Type 0
IsNewMoveAt moves k = ¬ IsIn (get_or (move_keys moves) k (0, 0)) (take k (move_keys moves))

-- this is asked of each move
abbrev pub new_moves : List Move → Rule AutoFault
new_moves moves = record { places = length moves; holds = IsNewMoveAt moves; fault = MoveTwice }

-- TooManyStates: a module has at most 64 ports on each side, with each in k states
abbrev pub HasFewPortsIn : ℕ → Module → Type 0
HasFewPortsIn k m = (length m.inputs * k ≤ 64) × (length m.outputs * k ≤ 64)

-- the rules on the states that parts name
abbrev pub state_rules : AutoParts → List (Rule AutoFault)
state_rules p =
    once (AreSomeStates p.states) StatesBad ∷
    once (p.start < p.states) (StateBad Start) ∷
    each p.accept (λ s. s < p.states) (λ k. StateBad Accept) ∷
    each p.moves (IsMoveBelow p.states) (λ k. StateBad Moves) ∷ []

-- the rule on the names of modules
abbrev pub name_rule : Grammar → List MovePart → Rule AutoFault
name_rule g moves = each moves (IsMoveOf g) UnknownModule

-- the rule on the ports of modules
abbrev pub port_rule : Grammar → ℕ → Rule AutoFault
port_rule g k = each g.modules (HasFewPortsIn k) (λ m. TooManyStates)

-- the rules on the parts of an automaton over the modules of a grammar
abbrev pub auto_rules : Grammar → AutoParts → List (Rule AutoFault)
auto_rules g p = state_rules p ++ name_rule g p.moves ∷ new_moves (map (move_of g) p.moves) ∷ port_rule g p.states ∷ []

-- bytes describe an automaton over the modules of a grammar: the parts that they say keep all rules, and it is that of these parts
abbrev pub TellsAutomaton : Grammar → List ℕ → Automaton → Type 0
TellsAutomaton g bytes a = (p : AutoParts) × IsAutoText bytes p × AllHold (auto_rules g p) × (a ≡ automaton_of g p)

-- why they describe none: they say no parts, or the parts break a rule, and the fault of the first that they break is told. Want of memory is no such fault
abbrev pub IsAutoFault : Grammar → List ℕ → AutoFault → Type 0
IsAutoFault g bytes f = IsShapeFault bytes f ⊎ ((p : AutoParts) × IsAutoText bytes p × IsFirstFault (auto_rules g p) f)
