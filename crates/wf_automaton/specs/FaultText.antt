-- How a fault of an automaton is told: its name, and behind it what it is about.
use Rattle.std.specs.Prelude.{ℕ, List, [], ◌++◌, Option, Some, None, codes, decimal}
use Rattle.wf_automaton.specs.declared.fault.AutoMember.{AutoMember}
use Rattle.wf_automaton.specs.declared.fault.AutoMember.TheVariants.{Top, States, Start, Accept, Moves}
use Rattle.wf_automaton.specs.declared.fault.AutoSpot.{AutoSpot}
use Rattle.wf_automaton.specs.declared.fault.AutoSpot.TheVariants.{InMember, MoveAt}
use Rattle.wf_automaton.specs.declared.fault.AutoFault.{AutoFault}
use Rattle.wf_automaton.specs.declared.fault.AutoFault.TheVariants.{NotJson, WrongShape, StatesBad, StateBad, UnknownModule, MoveTwice, TooManyStates, NoMemory}

-- the word of a member
abbrev pub auto_member_word : AutoMember → List ℕ
auto_member_word Top = codes "top"
auto_member_word States = codes "states"
auto_member_word Start = codes "start"
auto_member_word Accept = codes "accept"
auto_member_word Moves = codes "moves"

-- the name of a fault of an automaton
abbrev pub auto_name : AutoFault → List ℕ
auto_name NotJson = codes "NotJson"
auto_name (WrongShape m) = codes "WrongShape"
auto_name StatesBad = codes "StatesBad"
auto_name (StateBad m) = codes "StateBad"
auto_name (UnknownModule n) = codes "UnknownModule"
auto_name (MoveTwice n) = codes "MoveTwice"
auto_name TooManyStates = codes "TooManyStates"
auto_name NoMemory = codes "NoMemory"

-- what it is about
abbrev pub auto_spot : AutoFault → Option AutoSpot
auto_spot NotJson = None
auto_spot (WrongShape m) = Some (InMember m)
auto_spot StatesBad = None
auto_spot (StateBad m) = Some (InMember m)
auto_spot (UnknownModule n) = Some (MoveAt n)
auto_spot (MoveTwice n) = Some (MoveAt n)
auto_spot TooManyStates = None
auto_spot NoMemory = None

-- a member or a move behind a space; nothing where there is neither
abbrev pub behind_auto_spot : Option AutoSpot → List ℕ
behind_auto_spot None = []
behind_auto_spot (Some (InMember m)) = codes " " ++ auto_member_word m
behind_auto_spot (Some (MoveAt n)) = codes " move " ++ decimal n

-- a fault of an automaton: its name, and what it is about
abbrev pub auto_text : AutoFault → List ℕ
auto_text f = auto_name f ++ behind_auto_spot (auto_spot f)
