-- How a fault of an event is told.
use Rattle.std.specs.Prelude.{ℕ, List, codes}
use Rattle.wf_model.specs.declared.event.RunFault.{RunFault}
use Rattle.wf_model.specs.declared.event.RunFault.TheVariants.{NotStarted, StartedTwice, UnknownInstance, UnknownProduction, WrongHead, AlreadyExpanded, PositionsWrong, NameBad, NameTwice, TooManyInstances, NoMemory}

-- the name of a fault of an event
abbrev pub run_name : RunFault → List ℕ
run_name NotStarted = codes "NotStarted"
run_name StartedTwice = codes "StartedTwice"
run_name UnknownInstance = codes "UnknownInstance"
run_name UnknownProduction = codes "UnknownProduction"
run_name WrongHead = codes "WrongHead"
run_name AlreadyExpanded = codes "AlreadyExpanded"
run_name PositionsWrong = codes "PositionsWrong"
run_name NameBad = codes "NameBad"
run_name NameTwice = codes "NameTwice"
run_name TooManyInstances = codes "TooManyInstances"
run_name NoMemory = codes "NoMemory"
