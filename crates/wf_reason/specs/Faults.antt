-- The end of the program where a line of a chain is refused.
use Rattle.std.specs.Prelude.{Some, codes}
use Rattle.wf_message.specs.Endings.{End, Refused}
use Rattle.wf_reason.specs.declared.fault.LineWrong.{LineWrong}

-- where it has not the form of its turn
abbrev pub wrong_end : LineWrong → End
wrong_end f = Refused (codes "chain") (Some f.line) (codes "LineWrong")
