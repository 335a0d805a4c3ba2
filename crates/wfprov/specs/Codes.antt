-- The exit statuses of the program.
use Rattle.std.specs.Prelude.{ℕ}
use Rattle.wf_message.specs.declared.status.Status.{Status}
use Rattle.wf_message.specs.declared.status.Status.TheVariants.{Done, Usage, Refused, ReadFault, WriteFault, NoMemory}

-- the exit status that tells a status
abbrev pub code_of : Status → ℕ
code_of Done = 0
code_of Usage = 1
code_of Refused = 2
code_of ReadFault = 3
code_of WriteFault = 4
code_of NoMemory = 5
